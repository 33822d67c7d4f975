-- Sums of products, one product after the other.
use Rattle.std.proofs.Common.{◌≡◌, ℕ, suc, ◌+◌, ap, ◌∙◌, subst, arith}
use Rattle.coeff_algebra.specs.{Elements.Elements, Maps.sum_below}

module _ {C : Type 0} (k : Elements C) (x y : ℕ → C) where
  -- the sum of the first products
  abbrev pub products : ℕ → C
  products n = sum_below k n (λ i. k.mul (x i) (y i))

  pub product_more : (n : ℕ) (sum left right product new : C) → sum ≡ products n → left ≡ x n → right ≡ y n → product ≡ k.mul left right
      → new ≡ k.add sum product → new ≡ products (n + 1)
  product_more n sum left right product new so_far l r p e =
      let next : suc n ≡ n + 1 = omega arith in
      let this = p ∙ (ap (λ z. k.mul z right) l ∙ ap (k.mul (x n)) r) in
      subst (λ m. new ≡ products m) next (e ∙ (ap (λ z. k.add z product) so_far ∙ ap (k.add (products n)) this))

  pub products_and : (n m : ℕ) (sum constant last new : C) → sum ≡ products n → n ≡ m → constant ≡ last → new ≡ k.add sum constant
      → new ≡ k.add (products m) last
  products_and n m sum constant last new so_far same c e =
      e ∙ (ap (λ z. k.add z constant) (subst (λ m. sum ≡ products m) same so_far) ∙ ap (k.add (products m)) c)
