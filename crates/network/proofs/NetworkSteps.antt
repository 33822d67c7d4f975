-- What keeps a network one, when its groupbys change.
use Rattle.std.proofs.Common.{◌≡◌, ℕ, ◌+◌, ◌<◌, List, ◌++◌, length, take, drop, get_or, Some, sym, ap, ◌∙◌, subst, arith}
use Rattle.std.specs.Prelude.{slice_get}
use Rattle.epoch_model.specs.Machine.{Event}
use Rattle.stage_plan.specs.Sound.{PlanParts}
use Rattle.switch_core.{specs.Rows.Each, proofs.{LaneFacts.whole_written, SideBySide.got_here}}
use Rattle.network.specs.{Groups.{AreGroups, GroupGrows, GroupKept, GroupView}, Events.GroupsMake, Networks.{IsNetwork, NetworkView}}
use Rattle.network.proofs.{GroupSteps.{have_grown, have_kept, still_groups}, MakeSteps.groups_kept}

-- a network of these parts
abbrev pub net_of : PlanParts → ℕ → ℕ → ℕ → List GroupView → NetworkView
net_of plan buckets records switches groups =
    record { plan = plan; buckets = buckets; pipe_records = records; switches = switches; groups = groups }

-- a network with other groupbys
abbrev pub with_groups : NetworkView → List GroupView → NetworkView
with_groups net groups = net_of net.plan net.buckets net.pipe_records net.switches groups

-- the groupby that is found at a place is there
pub group_there : (view old : NetworkView) (lane : ℕ) (group : GroupView) → view ≡ old → lane < length old.groups
    → group ≡ get_or view.groups lane group → slice_get view.groups lane ≡ Some group
group_there view _ lane group same within value =
    got_here view.groups lane group (subst (λ (v : NetworkView). lane < length v.groups) (sym same) within)
    ∙ ap (λ (x : GroupView). Some x) (sym value)

-- A network whose groupbys kept kinds and sizes is one as before.
pub kept_network : (ways : ℕ) (old : NetworkView) (news : List GroupView) → Each GroupKept old.groups news → IsNetwork ways old
    → IsNetwork ways (with_groups old news)
kept_network _ old news kept is = record {
  few = is.few;
  groups = still_groups old.switches old.plan old.groups news kept is.groups;
  wide = have_kept (λ x. length x.cache.lists) old.buckets old.groups news (λ a b k. k.buckets) kept is.wide;
  pipes = have_kept (λ x. x.pipe.places) old.pipe_records old.groups news (λ a b k. k.places) kept is.pipes;
  sizes = is.sizes;
}

-- so is one that made events of a switch
pub made_network : (ways at : ℕ) (events : ℕ → List Event) (old : NetworkView) (news : List GroupView)
    → GroupsMake ways at events old.groups news
    → IsNetwork ways old → IsNetwork ways (with_groups old news)
made_network ways at events old news made is = kept_network ways old news (groups_kept ways at events old.groups news made) is

-- and one in which nothing happened
pub same_network : (ways : ℕ) (old : NetworkView) (news : List GroupView) → news ≡ old.groups → IsNetwork ways old
    → IsNetwork ways (with_groups old news)
same_network ways old _ same is = rw same is

-- a network with a switch more
pub grown_network : (ways : ℕ) (old : NetworkView) (news : List GroupView) → old.switches < 64 → AreGroups old.plan (old.switches + 1) news
    → Each (GroupGrows ways old.buckets old.pipe_records) old.groups news → IsNetwork ways old
    → IsNetwork ways (record {
      plan = old.plan;
      buckets = old.buckets;
      pipe_records = old.pipe_records;
      switches = old.switches
          + 1;
      groups = news;
    })
grown_network ways old news few are grown is = record {
  few = omega arith;
  groups = are;
  wide = have_grown (λ x. length x.cache.lists) old.buckets ways old.buckets old.pipe_records old.groups news (λ a b g. g.wide) grown
      is.wide;
  pipes = have_grown (λ x. x.pipe.places) old.pipe_records ways old.buckets old.pipe_records old.groups news (λ a b g. g.pipes) grown
      is.pipes;
  sizes = is.sizes;
}

-- groupbys that were written over the whole of a list
pub ran_whole : (R : List GroupView → List GroupView → Type 0) (olds before news : List GroupView) (many : ℕ) → before ≡ olds
    → length news ≡ many → R before news
    → R olds (take many (news ++ drop (length news) olds))
ran_whole R olds _ news many was long ran =
    rw (whole_written news (drop (length news) olds) many long, ← was) ran
