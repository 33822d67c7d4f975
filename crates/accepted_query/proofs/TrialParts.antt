-- The text of the trial's query as it is read.
use Rattle.std.specs.Prelude.{ℕ, ◌-◌, ◌^◌, List, [], ◌∷◌, codes}
use Rattle.query_lang.specs.declared.{fault.Span.Span, query.{Name.Name, Stmt.TheVariants.{Assign, If}, FoldDef.FoldDef, Item.Item}}
use Rattle.query_lang.specs.declared.{query.Query.Query, fold.Op.TheVariants.{Add, Eq, Ne, Max}}
use Rattle.query_lang.specs.declared.query.Expr.TheVariants.{Number, Named, Binary, Call}
use Rattle.query_lang.specs.declared.query.Item.TheVariants as item
use Rattle.query_lang.specs.declared.query.Key.TheVariants as keys
use Rattle.query_lang.specs.declared.query.StreamOp.TheVariants as ops
use Rattle.query_lang.specs.declared.query.FinalOp.TheVariants as finals

abbrev pub at : ℕ → ℕ → Span
at start end = record { start = start; end = end }

abbrev pub named : ℕ → ℕ → ℕ → Name
named id start end = record { id = id; span = at start end }

abbrev pub count_fold : FoldDef
count_fold = record {
  name = (named 0 4 9);
  states = (record { name = (named 1 11 12); initial = 0 }) ∷ [];
  args = [];
  body = Assign (named 1 21 22) (Binary Add (at 27 28) (Named (named 1 25 26)) (Number 1 (at 29 30))) ∷ [];
}

abbrev pub lost_fold : FoldDef
lost_fold = record {
  name = (named 2 38 42);
  states = (record { name = (named 3 44 45); initial = 0 }) ∷ [];
  args = (named 4 49 53) ∷ [];
  body = If (Binary Eq (at 67 69) (Named (named 4 62 66)) (Number (2 ^ 64 - 1) (at 70 78)))
      (Assign (named 3 82 83) (Binary Add (at 88 89) (Named (named 3 86 87)) (Number 1 (at 90 91))) ∷ []) [] ∷ [];
}

abbrev pub oos_fold : FoldDef
oos_fold = record {
  name = (named 5 101 104);
  states = (record { name = (named 6 106 110); initial = 0 })
      ∷ (record { name = (named 7 112 113); initial = 0 }) ∷ [];
  args = (named 8 117 123) ∷ (named 9 125 136) ∷ [];
  body = If (Binary Ne (at 150 152) (Named (named 6 145 149)) (Named (named 8 153 159)))
      (Assign (named 7 163 164) (Binary Add (at 169 170) (Named (named 7 167 168)) (Number 1 (at 171 172))) ∷ []) []
      ∷ Assign (named 6 176 180) (Binary Add (at 190 191) (Named (named 8 183 189)) (Named (named 9 192 203))) ∷ [];
}

abbrev pub deepest_fold : FoldDef
deepest_fold = record {
  name = (named 10 211 218);
  states = (record { name = (named 11 220 221); initial = 0 }) ∷ [];
  args = (named 12 225 230) ∷ [];
  body = Assign (named 11 235 236) (Call Max (at 239 242) ((Named (named 11 243 244))
      ∷ (Named (named 12 246 251)) ∷ [])) ∷ [];
}

abbrev pub trial_names : List (List ℕ)
trial_names = codes "count" ∷ codes "c" ∷ codes "lost" ∷ codes "d" ∷ codes "tout" ∷ codes "oos" ∷ codes "last" ∷ codes "n"
    ∷ codes "tcpseq" ∷ codes "payload_len" ∷ codes "deepest" ∷ codes "m" ∷ codes "qsize" ∷ codes "a" ∷ codes "pktstream"
    ∷ codes "srcip" ∷ codes "b" ∷ codes "switch" ∷ codes "e" ∷ codes "g" ∷ codes "big" ∷ codes "odd" ∷ codes "deep" ∷ []

-- the items after the folds
abbrev pub trial_rest : List Item
trial_rest = (item.Stream (record {
  name = (named 13 256 257);
  op = ops.Group (named 14 268 277) (keys.Named (named 15 280 285)
      ∷ []) (named 0 288 293);
}))
    ∷ (item.Stream (record {
      name = (named 16 296 297);
      op = ops.Group (named 14 308 317) (keys.Named (named 17 320 326)
          ∷ []) (named 2 329 333);
    }))
    ∷ (item.Stream (record {
      name = (named 18 336 337);
      op = ops.Group (named 14 348 357) (keys.FiveTuple (at 360 366)
          ∷ []) (named 5 369 372);
    }))
    ∷ (item.Stream (record {
      name = (named 19 375 376);
      op = ops.Group (named 14 387 396) (keys.Named (named 17 399 405)
          ∷ []) (named 10 408 415);
    }))
    ∷ (item.Final (record { name = (named 20 424 427); op = finals.Top (named 13 434 435) (named 1 437 438) 3 (at 440 441) }))
    ∷ (item.Final (record { name = (named 21 450 453); op = finals.Top (named 18 460 461) (named 7 463 464) 3 (at 466 467) }))
    ∷ (item.Final (record { name = (named 22 476 480); op = finals.Top (named 19 487 488) (named 11 490 491) 3 (at 493 494) }))
    ∷ (item.Print (named 20 503 506))
    ∷ (item.Print (named 16 514 515))
    ∷ (item.Print (named 21 523 526))
    ∷ (item.Print (named 22 534 538)) ∷ []

-- the query that the text is
abbrev pub trial_read : Query
trial_read = record {
  names = trial_names;
  items = item.Fold count_fold ∷ item.Fold lost_fold ∷ item.Fold oos_fold ∷ item.Fold deepest_fold ∷ trial_rest;
  end = at 540 540;
}
