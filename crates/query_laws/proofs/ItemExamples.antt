-- The examples of items, from the rules.
use Rattle.std.proofs.Common.{◌≡◌, ℕ, ◌<◌, List, [], ◌∷◌, None, refl, sym, subst, arith}
use Rattle.query_lang.specs.declared.fold.TypedExpr.TheVariants as typed
use Rattle.query_lang.specs.declared.typed.PrintOf.TheVariants as place
use Rattle.query_laws.proofs.{Terms.{Lt, Name, Known, known_in, IsFree, of_number, of_binary}, FaultSteps.no_fault, FoldNames.among_new}
use Rattle.query_laws.proofs.NameLaws.{free_sound, stream_sound, table_sound, table_complete}
use Rattle.query_laws.specs.TypingExamples.{here, called}
use Rattle.query_laws.specs.ItemExamples.{names, one_of_each, IsTaken, columns_of_packets, filters, ItemExamples}

abbrev before : List Known
before = known_in names one_of_each

taken : {id : ℕ} → (IsFree before id → ⊥) → IsTaken id
taken {id} among = record {
  by_no_fold = λ d is one h. among (named d.name is h.free);
  by_no_stream = λ d is one h. among (named d.name is h.binding.free);
  by_no_final = λ d is one h. among (named d.name is h.binding.free);
}
  where
    named : (name : Name) → name ≡ called id → IsFree before name.id → IsFree before id
    named _ is free = subst (λ (z : Name). IsFree before z.id) is free

pub item_examples : ItemExamples
item_examples = record {
  packets_name = taken (λ free. free.0 refl);
  folds_name = taken (λ free. free.1.0 refl);
  streams_name = taken (λ free. free.1.1.0 refl);
  finals_name = taken (λ free. free.1.1.1.0 refl);
  second_table = record {
    table = record { place = place.Final 0; columns = 1 ∷ 3 ∷ []; keys = 1 };
    stands = table_sound before (called 12) refl;
    once = among_new 12 (11 ∷ []) refl;
    is = refl;
  };
  printed_twice = λ one h. h.once.0 refl;
  printed_fold = λ one h. no_fault (sym (table_complete before (called 10) h.stands));
  binding_32 = record {
    made = _;
    binding = record { free = free_sound (known_in names (filters 31)) 50 refl; few = omega arith };
    typed = record {
      source = record { number = 0; columns = columns_of_packets; hidden = []; table = None };
      condition = typed.Binary Lt (typed.Number 0) (typed.Number 1);
      stream = stream_sound (known_in names (filters 31)) (called 0) refl;
      typed = of_binary here (of_number here) (of_number here) tt;
      is = refl;
    };
    is = refl;
  };
  binding_33 = λ one h. let few : 32 < 32 = h.binding.few in absurd (omega (arith, few));
}
