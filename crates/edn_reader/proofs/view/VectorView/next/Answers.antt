use Rattle.edn_reader.specs.declared.token.Opener.TheVariants.{Vector}
use Rattle.edn_reader.proofs.Lent.{members_there, of_members, members_left, view_shrinks}
use Rattle.edn_reader.proofs.view.VectorView.next.Goals as goal

pub next-requires : goal.next-requires
next-requires c = of_members c.args.self.now.parts c.args.self.now.whole

pub invariant_of-self-clause-whole : goal.invariant_of-self-clause-whole
invariant_of-self-clause-whole c = members_left c.args.self.now.parts c.next.new.self c.next.result (c.next.ensures.part Vector) c.next.ensures.shrinks c.args.self.now.whole

pub returns-clause-left : goal.returns-clause-left
returns-clause-left c = members_there c.args.self.now

pub returns-clause-shrinks : goal.returns-clause-shrinks
returns-clause-shrinks c = view_shrinks c.args.self.now _ c.next.result c.next.ensures.shrinks
