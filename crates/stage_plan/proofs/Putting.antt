-- A plan is put together from parts that were made in turn.
use Rattle.std.{proofs.Common.{◌≡◌, ℕ, ◌<◌, ◌≤◌, List, [], ◌∷◌, length, sym, ap, subst, arith}, specs.Prelude.{All, map}}
use Rattle.marple_base.specs.declared.field.FieldSet.{FieldSet}
use Rattle.query_lang.specs.{declared.typed.{TypedQuery.TypedQuery, TypedStream.TypedStream}, Streams.takings}
use Rattle.query_lang.specs.{declared.error.QueryError.QueryError, Answers.IsTold}
use Rattle.stage_plan.specs.declared.{group.{GroupPlan.GroupPlan, GroupWiring.GroupWiring}, op.PlanOp.PlanOp, wires.StreamWires.StreamWires}
use Rattle.stage_plan.specs.{Depths.stage_fault, Registers.stages_of, Fields.reads_of, Grouping.AreGroupsOf}
use Rattle.stage_plan.specs.{Making.{packet_wires, made_fault}, Ordering.{order_of, ArePlaced, moved_op, op_numbered, wiring_of}}
use Rattle.stage_plan.specs.{Planned.{IsPlanOf, MadeOf}, Shape.{group_shape, query_groups}, Sound.{PlanParts, IsSoundPlan}}
use Rattle.stage_plan.proofs.{Faults.{QueryMade, query_made, query_fault}, Runs.stage_below, Sorted.{order_within, order_long}}
use Rattle.stage_plan.proofs.PlanParts.{is_plan, sound_plan}

made_query : (q : TypedQuery) (ops : List PlanOp) (streams : List StreamWires) → MadeOf q ops streams → QueryMade q ops streams
made_query q ops streams m = query_made q _ _ m.ops_are m.streams_are m.fits

-- the order's numbers are there, and there are few
pub numbers_within : (ops : List PlanOp) (order : List ℕ) (n : ℕ) → order ≡ order_of ops (stages_of ops) → n ≡ length ops
    → All (λ number. number < n) order
numbers_within ops _ n e len =
    let P : List ℕ → Type 0 = λ l. All (λ number. number < n) l in
    let Q : ℕ → Type 0 = λ m. All (λ number. number < m) (order_of ops (stages_of ops)) in
    rw e (subst Q (sym len) (order_within ops (stages_of ops)))

-- the parts that were made
pub record PartsOf (q : TypedQuery) (ops : List PlanOp) (streams : List StreamWires) (order registers : List ℕ) (sorted : List PlanOp)
    (wiring : List GroupWiring) (groups : List GroupPlan) (reads : FieldSet) : Type 0 where
  pub made : MadeOf q ops streams
  pub order_is : order ≡ order_of ops (stages_of ops)
  pub placed : ArePlaced order registers (length order)
  pub long : length registers ≡ length ops
  pub sorted_are : sorted ≡ map (λ number. moved_op registers (op_numbered ops number)) order
  pub wiring_is : wiring ≡ map (wiring_of registers streams) (takings q.streams)
  pub shapes : map group_shape groups ≡ query_groups q
  pub sound : AreGroupsOf q.folds (takings q.streams) groups
  pub count : length groups ≡ length (takings q.streams)
  pub reads_are : reads ≡ reads_of q

abbrev parts_with : FieldSet → List GroupPlan → List PlanOp → List GroupWiring → PlanParts
parts_with reads groups ops wiring = record { reads = reads; ops = ops; groups = groups; wiring = wiring }

-- they are a plan that is sound
pub record IsPut (q : TypedQuery) (plan : PlanParts) : Type 0 where
  pub is_plan : IsPlanOf q plan
  pub is_sound : IsSoundPlan plan

pub put : (q : TypedQuery) (ops : List PlanOp) (streams : List StreamWires) (order registers : List ℕ) (new : List PlanOp)
    (wiring : List GroupWiring) (groups : List GroupPlan) (reads : FieldSet) →
    PartsOf q ops streams order registers new wiring groups reads → IsPut q
    (record { reads = reads; ops = new; groups = groups; wiring = wiring })
put q ops streams _ registers new wiring groups reads p =
    rw (← same) (record {
      is_plan = is_plan q p.made.valid ops streams made p.made.ops_are p.made.streams_are p.made.few registers placed
          p.long groups p.shapes p.sound p.count reads p.reads_are;
      is_sound = sound_plan q p.made.valid ops streams made p.made.ops_are
          p.made.streams_are p.made.few registers placed p.long groups p.shapes p.sound p.count reads p.reads_are;
    })
  where
    made : QueryMade q ops streams
    made = made_query q _ _ p.made

    placed : ArePlaced (order_of ops (stages_of ops)) registers (length (order_of ops (stages_of ops)))
    placed = let P : List ℕ → Type 0 = λ o. ArePlaced o registers (length o) in rw p.order_is at p.placed

    same : parts_with reads groups (map (λ number. moved_op registers (op_numbered ops number)) (order_of ops (stages_of ops)))
        (map (wiring_of registers streams) (takings q.streams)) ≡ record { reads = reads; ops = new; groups = groups; wiring = wiring }
    same = simp (p.order_is, p.sorted_are, p.wiring_is)

pub few_numbers : (q : TypedQuery) (ops : List PlanOp) (streams : List StreamWires) (order : List ℕ) → MadeOf q ops streams
    → order ≡ order_of ops (stages_of ops) → length order ≤ 32768
few_numbers q ops streams order m e =
    let made : QueryMade q ops streams = made_query q ops streams m in
    let n : length (order_of ops (stages_of ops)) ≡ length ops = order_long ops (stages_of ops) (record {
      some = λ i one f. omega (arith, (made.made.each i one f).stage);
      most = λ i one f. stage_below ops i one f;
    }) in
    omega (arith, ap length e, n, m.few)

-- from what each step gives
pub put_from : (q : TypedQuery) (ops o1 : List PlanOp) (streams s1 : List StreamWires) (t1 : List TypedStream) (stages : ℕ)
    (order a1 a2 registers r1 r2 : List ℕ) (new : List PlanOp) (wiring : List GroupWiring) (groups : List GroupPlan) (reads : FieldSet) →
    MadeOf q ops streams → o1 ≡ ops → stages ≡ stages_of o1 → order ≡ order_of o1 stages → a1 ≡ order → ArePlaced a1 registers (length a1)
    → length registers ≡ length o1 → a2 ≡ order → r1 ≡ registers → new ≡ map (λ number. moved_op r1 (op_numbered o1 number)) a2 →
    t1 ≡ q.streams → s1 ≡ streams → r2 ≡ registers → wiring ≡ map (wiring_of r2 s1) (takings t1) →
    map group_shape groups ≡ query_groups q → AreGroupsOf q.folds (takings q.streams) groups → length groups ≡ length (takings q.streams)
    → reads ≡ reads_of q → IsPut q (record { reads = reads; ops = new; groups = groups; wiring = wiring })
put_from q ops o1 streams s1 t1 _ order a1 a2 registers r1 r2 new wiring groups reads made eo es eorder ea1 placed long ea2 er1 enew et
    est er2 ewiring shapes sound count ereads = put q _ _ _ _ _ _ _ _ (record {
      made = made;
      order_is = rw (eorder, es, eo);
      placed = (let P : List ℕ → Type 0 = λ l. ArePlaced l registers (length l) in rw ea1 at placed);
      long = rw (long, eo);
      sorted_are = rw (enew, er1, eo, ea2);
      wiring_is = rw (ewiring, er2, est, et);
      shapes = shapes;
      sound = sound;
      count = count;
      reads_are = ereads;
    })

-- the order that a step gives
pub order_from : (ops o1 : List PlanOp) (stages : ℕ) (order a1 : List ℕ) → o1 ≡ ops → stages ≡ stages_of o1 → order ≡ order_of o1 stages
    → a1 ≡ order → a1 ≡ order_of ops (stages_of ops)
order_from _ o1 _ _ a1 eo es eorder ea1 = rw (ea1, eorder, es, eo)

-- a fault of the operations is one of the stages
pub refusal : (q : TypedQuery) (error : QueryError) → IsTold (made_fault q.folds [] (packet_wires ∷ []) q.streams) error
    → IsTold (stage_fault q) error
refusal q error h = rw (query_fault q) at h
