-- What a packet makes of a front whose cache has its entry already, or a free place for it.
use Rattle.std.proofs.Common.{◌≡◌, ℕ, ◌<◌, List, [], ◌∷◌, ◌++◌, length, refl, ap, ◌∙◌, subst}
use Rattle.epoch_model.specs.Keys.{Key, ArgRow, bucket_of}
use Rattle.epoch_model.specs.Machine.{Epoch, Machine, Packet, open_in, packet, set_open, with_new, with_row}
use Rattle.bucket_cache.specs.{Buckets.Pair, Caches.{Cache, entry_at, list_at, with_list, IsSoundCache}, Touches.{Touches, with_pair_first}}
use Rattle.bucket_cache.specs.declared.bucket.Touch.TheVariants.{Hit, Free}
use Rattle.evict_pipe.specs.Pipes.{Pipe}
use Rattle.switch_core.specs.{FrontParts.front_of, FrontEvents.FrontMakes, Lanes.{CacheStands, Standing, geometry}, Places.with_words}
use Rattle.switch_core.proofs.CacheSteps.{free_machine, free_stands, front_within, hit_machine, hit_stands}
use Rattle.switch_core.proofs.{FrontSizes.{SameSizes, front_makes, list_sizes, sizes_on, words_sizes}, LaneSteps.packet_merged_same}

-- a touched bucket of so many, and then the words of its first entry
module _ {K : Type 0} (stands : Standing) (ways : ℕ) (kind : K) (old touched new : Cache) (pipe : Pipe) (bucket place : ℕ) (key : Key)
    (row : ArgRow) (n : ℕ) (number : n ≡ length old.lists) (own : bucket ≡ bucket_of n key) (below : bucket < n)
    (rest : touched ≡ with_list old bucket (list_at touched bucket)) (sound : IsSoundCache ways touched)
    (written : new ≡ with_words touched place (entry_at new place)) where
  abbrev Made : Type 0
  Made = FrontMakes stands ways (Packet key row) (front_of kind old pipe) (front_of kind new pipe)

  is_own : bucket ≡ bucket_of (length old.lists) key
  is_own = own ∙ ap (λ many. bucket_of many key) number

  range : bucket < length old.lists
  range = subst (λ many. bucket < many) number below

  here : (tail : List Pair) → list_at touched bucket ≡ with_pair_first key place tail → place < length old.entries
  here tail first = subst (λ es. place < length es) (ap (λ c. c.entries) rest) (front_within ways touched bucket place key tail sound first)

  sizes : SameSizes old new
  sizes = sizes_on old touched new (list_sizes old touched bucket (list_at touched bucket) rest)
      (words_sizes touched new place (entry_at new place) written)

  -- such a packet closes no epoch
  made : (opened : Machine → List Epoch)
      → ((m : Machine) → CacheStands stands old m → packet (geometry ways old) m key row ≡ set_open m bucket (opened m))
      → ((m : Machine) → CacheStands stands old m → CacheStands stands new (packet (geometry ways old) m key row)) → Made
  made opened steps cached = front_makes stands ways (Packet key row) kind old new pipe pipe sizes refl (λ m s. record {
    cached = cached m s.cached;
    piped = rw (sizes.key_words, steps m s.cached) s.piped;
    few = (packet_merged_same (geometry ways old) m key row s.few).1;
  })

  pub hit_makes : Touches ways key (list_at old bucket) (Hit place) (list_at touched bucket)
      → ((rows : List ArgRow) → stands (entry_at touched place) rows → stands (entry_at new place) (rows ++ row ∷ [])) → Made
  hit_makes t absorbed = made (λ m. with_row key row (open_in m bucket))
      (hit_machine stands ways old (list_at touched bucket) bucket place key row is_own t)
      (hit_stands stands ways old touched new bucket place key row is_own range (here _ t.2) t rest sound written absorbed)

  pub free_makes : Touches ways key (list_at old bucket) (Free place) (list_at touched bucket)
      → stands (entry_at new place) (row ∷ []) → Made
  free_makes t begun = made (λ m. with_new key row (open_in m bucket))
      (free_machine stands ways old (list_at touched bucket) bucket place key row is_own t)
      (free_stands stands ways old touched new bucket place key row is_own range (here _ t.2) t rest sound written begun)
