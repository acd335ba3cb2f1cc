-- What a feeder is lent may be lent to another thread, where its runtime and its gate may be.
use denote.RattleType.{RattleType}
use denote.Ref.{NamedLft}
use mathlib.Core.List.{List, [], ◌∷◌}
use mir.Syntax.{Sym, Ty}
use denote.Exit.{no}
use denote.Param.{param, arg}
use denote.Struct.Field.{rows}
use denote.Struct.Tuple.{TupleAt, type_at, field_at, parts}
use denote.Param.Send.{AllSync, arg_sync, param_sync, IsSync, recorded_sync, shr_sync, struct_sync}
use denote.Struct.Declared.{shape}
use Rattle.std.proofs.alloc.Global.TheSendSync as alloc
use Rattle.jepsen_form.proofs.item.MomentField.TheSendSync as field
use Rattle.shards.proofs.Crosses.{auditor_sync}
use Rattle.shards.specs.contracts.auditor.Auditor as Auditor
use Rattle.shards.specs.declared.opening.Opening.{Ghosts}
use Rattle.tower_file.proofs.tower.Tower.TheSendSync as tower
use Rattle.tower_file.specs.contracts.tower.Tower as Tower
use Rattle.feeders.specs.contracts.site.SharedSite as Site

module _ (a w t : NamedLft) (O R G : RattleType) (g : Ghosts O.Denot) where
  pub site_sync : IsSync R → IsSync G → IsSync (Site.the_row a w t O R G g)
  site_sync runtime gate =
      recorded_sync (Site.the_field a w t O R G g).row _ _ (Site.the_type a w t O R G g).to_one
      (struct_sync (shape (Site.the_type a w t O R G g)) (
        shr_sync _ _ R runtime,
        (alloc.the_field_sync, (shr_sync _ _ (Auditor.the_row t O g) (auditor_sync t O g), (shr_sync _ _ G gate, (shr_sync _ _ Tower.the_row tower.the_sync, (field.the_field_sync, tt))))),
      ))

fields_sync : (Ts : List RattleType) → AllSync Ts → AllSync (rows (parts Ts))
fields_sync [] s = tt
fields_sync (T ∷ Ts) s = (s.0, fields_sync Ts s.1)

-- what a closure captures, where all of it may be lent to another thread
pub tuple_sync : (ν : Sym) (Ts : List RattleType) → AllSync Ts → IsSync (TupleAt ν Ts)
tuple_sync ν Ts s = recorded_sync (field_at ν Ts).row _ _ (type_at ν Ts).to_one (struct_sync (shape (type_at ν Ts)) (fields_sync Ts s))

pub closure_sync : (ν : Sym) (Ts : List RattleType) (δ : Ty) → AllSync Ts → IsSync (param 4 (arg δ no (TupleAt ν Ts)))
closure_sync ν Ts δ s = param_sync 4 (arg δ no (TupleAt ν Ts)) (arg_sync δ no (TupleAt ν Ts) (tuple_sync ν Ts s))
