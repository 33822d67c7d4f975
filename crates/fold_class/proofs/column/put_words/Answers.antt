use Rattle.std.proofs.Common.{◌≡◌, ℕ, List, [], ◌∷◌, length, set, refl, arith}
use Rattle.fold_class.proofs.column.put_words.Goals as goal

all_set : (ws : List ℕ) (a b c : ℕ) → length ws ≡ 3 → set (set (set ws 0 a) 1 b) 2 c ≡ a ∷ b ∷ c ∷ []
all_set [] a b c e = absurd (omega arith)
all_set (x ∷ []) a b c e = absurd (omega arith)
all_set (x ∷ y ∷ []) a b c e = absurd (omega arith)
all_set (x ∷ y ∷ z ∷ []) a b c e = refl
all_set (x ∷ y ∷ z ∷ w ∷ ws) a b c e = absurd (omega arith)

pub returns : goal.returns
returns c = all_set c.args.to.now c.args.mark c.args.first c.args.second c.requires
