-- What may cross threads: shards, their states, the auditor, and closures where all that they capture may.
use mathlib.Core.List.{List, [], ◌∷◌}
use mir.Syntax.{Sym, Ty}
use denote.Exit.{no}
use denote.RattleType.{RattleType}
use denote.Ref.{NamedLft}
use denote.Param.{param, arg}
use denote.Param.Send.{IsSend, IsSync, AllSend, param_send, arg_send, struct_send, recorded_send, sendable}
use denote.Struct.Declared.{shape}
use denote.Struct.Field.{rows}
use denote.Struct.Tuple.{TupleAt, type_at, field_at, parts}
use Rattle.std.proofs.Crossing.{crosses}
use Rattle.std.proofs.marker.PhantomData.TheSendSync as opening
use Rattle.register_book.proofs.Crosses as book
use Rattle.shards.proofs.entry.Entry.TheSendSync as entry
use Rattle.shards.specs.declared.opening.Opening.{Ghosts}
use Rattle.shards.specs.contracts.auditor.Auditor as Auditor
use Rattle.shards.specs.contracts.shard.Shard.{the_row, the_field}
use Rattle.shards.specs.contracts.state.ShardState as ShardState

module _ (a : NamedLft) where
  pub field_send : IsSend (the_field a).row
  field_send = search (book.send, entry.the_send, crosses, sendable) depth 60 fits 20000

  pub send : IsSend (the_row a)
  send = search (book.send, entry.the_send, crosses, sendable) depth 60 fits 20000

  pub field_sync : IsSync (the_field a).row
  field_sync = search (book.sync, entry.the_sync, crosses, sendable) depth 60 fits 20000

  pub sync : IsSync (the_row a)
  sync = search (book.sync, entry.the_sync, crosses, sendable) depth 60 fits 20000

module _ (a : NamedLft) (O : RattleType) (g : Ghosts O.Denot) where
  pub state_send : IsSend (ShardState.the_row a O g)
  state_send = search (opening.the_field_send, field_send, crosses, sendable) depth 60 fits 20000

  pub auditor_sync : IsSync (Auditor.the_row a O g)
  auditor_sync = search (state_send, sync, crosses, sendable) depth 60 fits 20000

fields_send : (Ts : List RattleType) → AllSend Ts → AllSend (rows (parts Ts))
fields_send [] s = tt
fields_send (T ∷ Ts) s = (s.0, fields_send Ts s.1)

module _ (ν : Sym) (Ts : List RattleType) where
  pub tuple_send : AllSend Ts → IsSend (TupleAt ν Ts)
  tuple_send s = recorded_send (field_at ν Ts).row _ _ (type_at ν Ts).to_one (struct_send (shape (type_at ν Ts)) (fields_send Ts s))

  -- what a closure captures is a tuple of the closure's name
  pub closure_send : (δ : Ty) → AllSend Ts → IsSend (param 1 (arg δ no (TupleAt ν Ts)))
  closure_send δ s = param_send 1 (arg δ no (TupleAt ν Ts)) (arg_send δ no (TupleAt ν Ts) (tuple_send s))
