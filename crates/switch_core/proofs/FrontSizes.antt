-- Fronts whose caches and pipes keep their sizes, and the words of room that are written over as a whole.
use Rattle.std.proofs.Common.{◌≡◌, ◌++◌, ℕ, List, length, take, drop, refl, ap, ◌∙◌, length-set}
use Rattle.epoch_model.specs.{Machine.{Event, Machine, step}, Tables.Folding}
use Rattle.epoch_entry.specs.Kinds.{Sizes}
use Rattle.bucket_cache.specs.{Buckets.Pair, Caches.{Cache, with_list}}
use Rattle.evict_pipe.specs.Pipes.{Pipe}
use Rattle.switch_core.specs.{FrontEvents.FrontMakes, FrontParts.{AreFrontParts, IsFront, front_of}}
use Rattle.switch_core.{specs.{Lanes.{FrontStands, Standing, geometry}, Places.with_words}, proofs.LaneFacts.whole_written}

-- a cache with as many buckets, and words of keys and entries, as before
pub record SameSizes (old new : Cache) : Type 0 where
  pub buckets : length new.lists ≡ length old.lists
  pub key_words : new.key_words ≡ old.key_words
  pub entry_words : new.entry_words ≡ old.entry_words

pub sizes_same : (cache : Cache) → SameSizes cache cache
sizes_same cache = record { buckets = refl; key_words = refl; entry_words = refl }

pub list_sizes : (old new : Cache) (bucket : ℕ) (pairs : List Pair) → new ≡ with_list old bucket pairs → SameSizes old new
list_sizes old new bucket pairs e = rw e record { buckets = length-set old.lists bucket pairs; key_words = refl; entry_words = refl }

pub words_sizes : (old new : Cache) (place : ℕ) (words : List ℕ) → new ≡ with_words old place words → SameSizes old new
words_sizes old new place words e = rw e record { buckets = refl; key_words = refl; entry_words = refl }

pub sizes_on : (a b c : Cache) → SameSizes a b → SameSizes b c → SameSizes a c
sizes_on a b c x y = record {
  buckets = y.buckets ∙ x.buckets;
  key_words = y.key_words ∙ x.key_words;
  entry_words = y.entry_words ∙ x.entry_words;
}

-- with such a cache and as many places, what a front represents is all that an event has to be shown to change
pub front_makes : {K : Type 0} (stands : Standing) (ways : ℕ) (event : Event) (kind : K) (old new : Cache) (pipe after : Pipe)
    → SameSizes old new → after.places ≡ pipe.places
    → ((m : Machine) → FrontStands stands old pipe m → FrontStands stands new after (step (geometry ways old) m event))
    → FrontMakes stands ways event (front_of kind old pipe) (front_of kind new after)
front_makes stands ways event kind old new pipe after sizes places made = record {
  stands = made;
  kind = refl;
  buckets = sizes.buckets;
  key_words = sizes.key_words;
  entry_words = sizes.entry_words;
  places = places;
}

front_kept : (ways : ℕ) (sizes : Sizes) (old new : Cache) (pipe after : Pipe) → SameSizes old new → after.places ≡ pipe.places
    → after.record_words ≡ pipe.record_words → IsFront ways sizes old pipe → IsFront ways sizes new after
front_kept ways sizes old new pipe after same places words f = record {
  some_ways = f.some_ways;
  some_buckets = rw same.buckets f.some_buckets;
  some_places = rw places f.some_places;
  entry = same.entry_words ∙ f.entry;
  record_words = rw (words, same.key_words, same.entry_words) f.record_words;
  few_key_words = rw same.key_words f.few_key_words;
}

-- the words of a room that was lent and written
pub room_kept : (written lent items : List ℕ) (len many : ℕ) → length written ≡ length lent → lent ≡ items → length lent ≡ len
    → length items ≡ many → length (take len (written ++ drop (length written) items)) ≡ many
room_kept written lent items len many kept same all long = ap length (whole_written _ (drop (length written) items) len (kept ∙ all))
    ∙ (kept ∙ (ap length same ∙ long))

-- the same scratch words, with others in them
pub parts_kept : (ways : ℕ) (sizes : Sizes) (f : Folding) (old new : Cache) (pipe after : Pipe)
    (scratch initial lent written : List ℕ) (len : ℕ)
    → SameSizes old new → after.places ≡ pipe.places → after.record_words ≡ pipe.record_words
    → lent ≡ scratch → length lent ≡ len → length written ≡ length lent
    → AreFrontParts ways sizes f old pipe scratch initial
    → AreFrontParts ways sizes f new after (take len (written ++ drop (length written) scratch)) initial
parts_kept ways sizes f old new pipe after scratch initial lent written len same places words lent_is all kept parts = record {
  front = front_kept ways sizes old new pipe after same places words parts.front;
  scratch_words = room_kept _ _ _ len _ kept lent_is all parts.scratch_words;
  initial_words = parts.initial_words;
  initial_state = parts.initial_state;
}
