-- A store, by its parts, after a key got a row or one of its rows was counted again.
use Rattle.std.proofs.Common.{◌≡◌, ◌≢◌, ◌<◌, ◌∙◌, ℕ, Bool, true, false, List, [], ◌∷◌, ◌++◌, length, map, get_or, set, slice_get, Some}
use Rattle.std.{proofs.{Common.{refl, sym, ap, subst, arith}, lemmas.Option.{slice_get_read, slice_get_within}}, specs.List.zip}
use Rattle.std.specs.Map.{values_of}
use Rattle.backing_store.specs.{Store.{Store, StoredRow, IsLastIn, IsStore, counted, number_of, one_more, row_keys}, Stored.stored}
use Rattle.backing_store.specs.{StoreView.{IsSound, IsWhole, SoundFor, store_of, store_with}, declared.store.Merged.Merged}
use Rattle.backing_store.{specs.declared.store.BackingStore.TheInside.Inside, proofs.StoreFacts.{Entry, FirstAt, counted_again}}
use Rattle.backing_store.proofs.StoreFacts.{counted_first, counted_row, place_kept, place_pushed, set_value_at, sound_again, sound_first}
use Rattle.backing_store.proofs.{StoreFacts.sound_row, StoreKept.store_counted}
use Rattle.backing_store.proofs.ZipFacts.{first_of_once, length-zip, none_of_absent, zip-push, zip-set, zip-value}

-- a store of which a row for a key is asked
pub record IsAsked (a : Inside) (store : Store) (key initial : List ℕ) : Type 0 where
  pub sound : IsSound a
  pub view : store_of a ≡ store
  pub key_size : length key ≡ store.key_words
  pub row_size : length initial ≡ store.state_words

module _ {a : Inside} (s : IsSound a) where
  abbrev entries : List Entry
  entries = zip a.keys.keys a.merged.items

  -- a key that stands there
  module _ {key : List ℕ} (at : ℕ) (here : slice_get a.keys.keys at ≡ Some key) where
    pub found_within : at < length a.merged.items
    found_within = omega (arith, slice_get_within a.keys.keys at key here, s.many)

    pub found_first : FirstAt key entries at
    found_first = first_of_once a.keys.keys a.merged.items at key s.many s.whole.0.once here

    pub found_value : {was : Merged} → was ≡ get_or a.merged.items at was → slice_get (values_of entries) at ≡ Some was
    found_value {was} read = zip-value a.keys.keys a.merged.items at was s.many
        (slice_get_read a.merged.items (length a.merged.items) at was refl found_within read)

module _ {a : Inside} {store : Store} {key initial : List ℕ} (s : IsAsked a store key initial) where
  -- the store is one as before, whether or not there is a row per epoch
  stays : (per_epoch : Bool) → IsStore (counted store key initial per_epoch)
  stays per_epoch = store_counted store key initial per_epoch (subst IsStore s.view s.sound.whole.0) s.key_size s.row_size

  abbrev parts : List Entry
  parts = zip a.keys.keys a.merged.items

  -- a key that stands there has another number of epochs now
  module _ (at : ℕ) {was : Merged} (here : slice_get a.keys.keys at ≡ Some key) (now : Merged)
      (read : was ≡ get_or a.merged.items at was) (more : now.epochs ≡ one_more was.epochs) where
    abbrev row : StoredRow
    row = record { key = at; words = initial }

    abbrev changed : List Entry
    changed = zip a.keys.keys (set a.merged.items at now)

    as_set : changed ≡ set_value_at parts at now
    as_set = zip-set a.keys.keys a.merged.items at now s.sound.many

    again_sound : now.last ≡ was.last → SoundFor (set_value_at parts at now) a.states.rows
    again_sound same = sound_again parts a.states.rows at was now s.sound.whole.1 (found_value s.sound at here read) same

    pub again_counted : store_with changed a.states.rows a.keys.width a.states.width ≡ counted store key initial false
    again_counted = rw as_set (counted_again key initial parts a.states.rows a.keys.width a.states.width at was now
        (found_first s.sound at here) (found_value s.sound at here read) more) ∙ ap (λ (x : Store). counted x key initial false) s.view

    pub again_whole : now.last ≡ was.last → IsWhole changed a.states.rows a.keys.width a.states.width
    again_whole same = (subst IsStore (sym again_counted) (stays false), rw as_set (again_sound same))

    pub again_place : now.last ≡ was.last → IsLastIn (row_keys a.states.rows) (number_of (map stored changed) key) now.last
    again_place same = rw as_set (place_kept key parts a.states.rows at now (found_first s.sound at here) (again_sound same))

    row_sound : now.last ≡ length a.states.rows → SoundFor (set_value_at parts at now) (a.states.rows ++ row ∷ [])
    row_sound place = sound_row parts a.states.rows row now s.sound.whole.1 place

    pub row_counted : store_with changed (a.states.rows ++ row ∷ []) a.keys.width a.states.width ≡ counted store key initial true
    row_counted = rw as_set (counted_row key initial parts a.states.rows a.keys.width a.states.width at was now
        (found_first s.sound at here) (found_value s.sound at here read) more) ∙ ap (λ (x : Store). counted x key initial true) s.view

    pub row_whole : now.last ≡ length a.states.rows → IsWhole changed (a.states.rows ++ row ∷ []) a.keys.width a.states.width
    row_whole place = (subst IsStore (sym row_counted) (stays true), rw as_set (row_sound place))

    pub row_place : now.last ≡ length a.states.rows
        → IsLastIn (row_keys (a.states.rows ++ row ∷ [])) (number_of (map stored changed) key) now.last
    row_place place = rw as_set
        (place_kept key parts (a.states.rows ++ row ∷ []) at now (found_first s.sound at here) (row_sound place))

  -- a key that stands nowhere is added, with its first row
  module _ (absent : (at : ℕ) → slice_get a.keys.keys at ≢ Some key) {number last : ℕ} (long : number ≡ length a.keys.keys)
      (place : last ≡ length a.states.rows) where
    abbrev first : Merged
    first = record { epochs = 1; last = last }

    abbrev one_key : List Entry
    one_key = zip (a.keys.keys ++ key ∷ []) (a.merged.items ++ first ∷ [])

    abbrev rows : List StoredRow
    rows = a.states.rows ++ record { key = number; words = initial } ∷ []

    as_pushed : one_key ≡ parts ++ (key, first) ∷ []
    as_pushed = zip-push a.keys.keys a.merged.items key first s.sound.many

    same_number : number ≡ length parts
    same_number = long ∙ sym (length-zip a.keys.keys a.merged.items s.sound.many)

    first_sound : SoundFor (parts ++ (key, first) ∷ []) rows
    first_sound = rw same_number (sound_first parts a.states.rows (record { key = length parts; words = initial }) key first
        s.sound.whole.1 place refl)

    pub first_counted : (per_epoch : Bool) → store_with one_key rows a.keys.width a.states.width ≡ counted store key initial per_epoch
    first_counted per_epoch = rw (as_pushed, same_number) (counted_first key initial parts a.states.rows a.keys.width a.states.width
        per_epoch key last (none_of_absent a.keys.keys a.merged.items key absent) refl)
        ∙ ap (λ (x : Store). counted x key initial per_epoch) s.view

    pub first_whole : IsWhole one_key rows a.keys.width a.states.width
    first_whole = (subst IsStore (sym (first_counted false)) (stays false), rw as_pushed first_sound)

    pub first_place : IsLastIn (row_keys rows) (number_of (map stored one_key) key) last
    first_place = rw as_pushed
        (place_pushed key parts rows key first (none_of_absent a.keys.keys a.merged.items key absent) refl first_sound)
