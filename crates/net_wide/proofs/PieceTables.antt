-- Tables are the same where the pieces of each key are.
use Rattle.std.proofs.Common.{◌≡◌, ℕ, suc, ◌+◌, ◌<◌, List, [], ◌∷◌, length, map, Option, Some, None, refl, ap, subst, arith}
use Rattle.std.proofs.lemmas.List.{length-map}
use Rattle.query_lang.specs.declared.{fold.TypedFold.TypedFold, typed.TypedQuery.TypedQuery}
use Rattle.stage_plan.specs.Uses.{uses}
use Rattle.epoch_model.specs.{Keys.{Key, ArgRow}, Tables.keys_used}
use Rattle.epoch_entry.specs.Foldings.{folding_of}
use Rattle.stage_plan.specs.{Planned.{IsPlanOf, fold_at}, Shape.{GroupShape, group_shape}, Sound.PlanParts}
use Rattle.final_queries.specs.declared.table.TableKind.TheVariants as kind
use Rattle.net_wide.specs.NetTables.{key_args, net_count, net_key_rows, net_rows, net_table, net_table_if, net_tables_from}
use Rattle.net_wide.{specs.NetTables.tables_of_pieces, proofs.SameTexts.{flat_maps_alike, sums_alike}}

module _ (q : TypedQuery) (packets : List (List ℕ)) where
  table_same : (pieces other : Key → List (List ArgRow)) (i : ℕ) (shape : GroupShape) (f : TypedFold)
      → ((key : Key) → pieces key ≡ other key)
      → net_table q packets pieces i shape f ≡ net_table q packets other i shape f
  table_same pieces other i _ f same = rw (count, rows)
    where
      count : net_count q i packets pieces ≡ net_count q i packets other
      count = rw (sums_alike (λ key. length (pieces key)) (λ key. length (other key)) 0 (keys_used (uses q i packets))
          (λ key. ap length (same key)))

      rows : net_rows q i packets pieces (folding_of f) ≡ net_rows q i packets other (folding_of f)
      rows = flat_maps_alike (λ key. net_key_rows (folding_of f) (pieces key) (key_args key (uses q i packets)) key)
          (λ key. net_key_rows (folding_of f) (other key) (key_args key (uses q i packets)) key) (keys_used (uses q i packets))
          (λ key. rw (same key))

  from_same : (pieces other : ℕ → Key → List (List ArgRow)) (i : ℕ) (shapes : List GroupShape)
      → ((j : ℕ) (key : Key) → j < i + length shapes → pieces j key ≡ other j key)
      → net_tables_from q packets pieces i shapes ≡ net_tables_from q packets other i shapes
  from_same _ _ i [] _ = refl
  from_same pieces other i (shape ∷ shapes) same =
      rw (one (fold_at q i), from_same pieces other (suc i) shapes (λ j key less. same j key (omega arith)))
    where
      one : (o : Option TypedFold) → net_table_if q packets (pieces i) i shape o ≡ net_table_if q packets (other i) i shape o
      one None = refl
      one (Some f) = rw (table_same (pieces i) (other i) i shape f (λ key. same i key (omega arith)))

  pub pieces_same : (plan : PlanParts) (pieces other : ℕ → Key → List (List ArgRow)) → IsPlanOf q plan
      → ((j : ℕ) (key : Key) → j < length plan.groups → pieces j key ≡ other j key)
      → tables_of_pieces q packets pieces ≡ tables_of_pieces q packets other
  unfolding tables_of_pieces
  pieces_same plan pieces other p same =
      subst (λ shapes. net_tables_from q packets pieces 0 shapes ≡ net_tables_from q packets other 0 shapes)
      (ap (λ shape. shape.groups) p.shape)
      (from_same pieces other 0 (map group_shape plan.groups) (λ j key less. same j key
      (let long = length-map plan.groups group_shape in omega arith)))
