-- Places that are inside a state of another spelling.
use Rattle.std.{proofs.Common.{◌≡◌, ℕ, ◌<◌, List, subst, sym}, specs.Prelude.All}

pub inside_of : (places places' : List ℕ) (n m : ℕ) → places ≡ places' → n ≡ m → All (λ v. v < m) places' → All (λ v. v < n) places
inside_of places places' n m e h a = rw e (subst (λ k. All (λ v. v < k) places') (sym h) a)
