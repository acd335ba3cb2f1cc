-- What a claim says, apart from where its lists lie in memory.
use Rattle.std.specs.Prelude.{◌≡◌, ◌≢◌, ℤ, Bool, true, false, List, [], Option, Some, None, option_map, Vec}
use Rattle.std.specs.declared.alloc.Global.{Global}
use Rattle.intervals.specs.declared.operation.Op.{Op}
use Rattle.intervals.specs.declared.operation.Value.{Value}
use Rattle.intervals.specs.declared.operation.Value.TheVariants.{Nil}
use Rattle.intervals.specs.declared.claim.Claim.{Claim}
use Rattle.intervals.specs.declared.claim.Initial.{Initial}
use Rattle.intervals.specs.declared.claim.Initial.TheVariants.{Known, Unknown}
use Rattle.intervals.specs.declared.claim.Kind.{Kind}
use Rattle.intervals.specs.declared.claim.Kind.TheVariants.{Atomic}
use Rattle.intervals.specs.declared.claim.Writers.{Writers}
use Rattle.intervals.specs.declared.claim.Writers.TheVariants.{Any, Listed}

-- what a claim says: kind, writers (none listed: any process), initial value and whether that is known (if not, the
-- value means nothing), domain (none given: all values), and whether the kind is fixed
pub record ClaimModel : Type 0 where
  pub kind : Kind
  pub writers : Option (List ℤ)
  pub initial : Value
  pub known : Bool
  pub domain : Option (List Value)
  pub fixed : Bool

-- the listed writers, or none where any process may write
abbrev pub writers_of : Writers → Option (List ℤ)
writers_of Any = None
writers_of (Listed processes) = Some processes.items

-- the initial value, which the register has before any write; nil where nobody knows it
abbrev pub value_at_first : Initial → Value
value_at_first (Known value) = value
value_at_first Unknown = Nil

-- whether the initial value is known
abbrev pub is_known : Initial → Bool
is_known (Known value) = true
is_known Unknown = false

-- what a `Claim` of the program says, as a `ClaimModel`
abbrev pub terms_of : Claim → ClaimModel
terms_of claim = record {
  kind = claim.kind;
  writers = writers_of claim.writers;
  initial = value_at_first claim.initial;
  known = is_known claim.initial;
  domain = option_map (λ (values : Vec Value Global). values.items) claim.domain;
  fixed = claim.fixed;
}

-- the claimed kind is atomic or the initial value is known
abbrev pub IsKnownUnlessAtomic : ClaimModel → Type 0
IsKnownUnlessAtomic claim = claim.kind ≢ Atomic → claim.known ≡ true

-- the state of a register: its claim, and the operations that stand
pub record RegisterState : Type 0 where
  pub claim : ClaimModel
  pub ops : List Op

-- the state of a register with this claim, under which these operations stand
abbrev pub state_of : ClaimModel → List Op → RegisterState
state_of claim ops = record { claim = claim; ops = ops }

-- the state of a register before any edit: the claim, and no operation
abbrev pub unedited : ClaimModel → RegisterState
unedited claim = state_of claim []
