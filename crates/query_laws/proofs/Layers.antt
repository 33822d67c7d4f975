-- What holds of each layer of an expression or a statement, whose parts it holds of, holds of all.
use Rattle.std.proofs.Common.{◌≡◌, sym, ap, subst, ◌∙◌}
use Rattle.query_lang.specs.declared.query.Expr.TheOpen as expr
use Rattle.query_lang.specs.declared.query.Expr.{fold-Expr}
use Rattle.query_lang.specs.declared.query.Stmt.TheOpen as stmt
use Rattle.query_lang.specs.declared.query.Stmt.{fold-Stmt}
use Rattle.query_laws.proofs.Terms.{Expr, fold-roll-Expr, ind-Expr, roll-Expr, map-Expr, Stmt, fold-roll-Stmt, ind-Stmt, roll-Stmt}
use Rattle.query_laws.proofs.Terms.{map-Stmt}

-- ---- a fold at one layer

pub expr_at : {A : Type 0} (step : expr.Expr-F A → A) (x : expr.Expr-F Expr) {e : Expr} → roll-Expr x ≡ e
    → fold-Expr A step e ≡ step (map-Expr Expr A (fold-Expr A step) x)
expr_at {A} step x is = ap (fold-Expr A step) (sym is) ∙ fold-roll-Expr A step x

pub stmt_at : {A : Type 0} (step : stmt.Stmt-F A → A) (x : stmt.Stmt-F Stmt) {s : Stmt} → roll-Stmt x ≡ s
    → fold-Stmt A step s ≡ step (map-Stmt Stmt A (fold-Stmt A step) x)
stmt_at {A} step x is = ap (fold-Stmt A step) (sym is) ∙ fold-roll-Stmt A step x

-- ---- a law of a fold's results, layer by layer

module _ {A : Type 0} (step : expr.Expr-F A → A) (P : Expr → A → Type 0) where
  abbrev Part : Type 0
  Part = (e : Expr) × P e (fold-Expr A step e)

  abbrev pub OfExprLayers : Type 0
  OfExprLayers = (y : expr.Expr-F Part) → P (roll-Expr (map-Expr Part Expr (λ a. a.0) y))
      (step (map-Expr Expr A (fold-Expr A step) (map-Expr Part Expr (λ a. a.0) y)))

  pub of_expr : OfExprLayers → (e : Expr) → P e (fold-Expr A step e)
  of_expr layers = ind-Expr (λ e. P e (fold-Expr A step e)) (λ x y is.
      subst (λ z. P (roll-Expr z) (fold-Expr A step (roll-Expr z))) is
      (subst (P (roll-Expr _)) (sym (fold-roll-Expr A step _)) (layers y)))

module _ {A : Type 0} (step : stmt.Stmt-F A → A) (P : Stmt → A → Type 0) where
  abbrev PartOfStmt : Type 0
  PartOfStmt = (s : Stmt) × P s (fold-Stmt A step s)

  abbrev pub OfStmtLayers : Type 0
  OfStmtLayers = (y : stmt.Stmt-F PartOfStmt) → P (roll-Stmt (map-Stmt PartOfStmt Stmt (λ s. s.0) y))
      (step (map-Stmt Stmt A (fold-Stmt A step) (map-Stmt PartOfStmt Stmt (λ s. s.0) y)))

  pub of_stmt : OfStmtLayers → (s : Stmt) → P s (fold-Stmt A step s)
  of_stmt layers = ind-Stmt (λ s. P s (fold-Stmt A step s)) (λ x y is.
      subst (λ z. P (roll-Stmt z) (fold-Stmt A step (roll-Stmt z))) is
      (subst (P (roll-Stmt _)) (sym (fold-roll-Stmt A step _)) (layers y)))
