use Rattle.std.specs.Prelude.{map}
use Rattle.register_book.specs.BookModel.{claimed_of}
use Rattle.std.proofs.Common.{ap, length, ◌<◌, ◌≤◌, arith}
use Rattle.std.proofs.lemmas.List.{length-map}
use Rattle.shards.specs.Plan.{plan_of, claims_of}
use Rattle.shards.proofs.Opened.{none_opened, one_opened, all_opened}
use Rattle.shards.proofs.shard.open_books.Goals as goal

pub loop-register-init : goal.loop-register-init
loop-register-init c = none_opened (claims_of c.args.tower.now) c.args.shards c.args.at (map claimed_of c.new-books.result.items) (ap (map claimed_of) c.new-books.ensures.items)

pub loop-register-preserved : goal.loop-register-preserved
loop-register-preserved c =
    let within : c.loop-register.register < length (claims_of c.args.tower.now) = omega (arith, length-map c.args.tower.now.registers (λ register. register.claim)) in
    one_opened (claims_of c.args.tower.now) c.args.shards c.args.at c.loop-register.register (map claimed_of c.loop-register.books.items) (map claimed_of c.open_book.new.books.items) within c.in_ok-open_book.ensures.books c.loop-register.invariant

pub returns-clause-books : goal.returns-clause-books
returns-clause-books c =
    let past : length (claims_of c.args.tower.now) ≤ c.loop-register.register = omega (arith, length-map c.args.tower.now.registers (λ register. register.claim)) in
    λ name feeders. all_opened (plan_of name c.args.tower.now c.args.shards feeders) c.args.at c.loop-register.register (map claimed_of c.loop-register.books.items) c.loop-register.invariant past
