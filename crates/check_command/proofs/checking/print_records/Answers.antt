use Rattle.std.proofs.Common.{◌≡◌, ℕ, Bool, List, Option, Vec, map, subst}
use Rattle.std.proofs.lemmas.Result.{on_ok_weaker}
use Rattle.std.specs.Io.KnownBytes.{Appends}
use Rattle.std.specs.declared.alloc.Global.{Global}
use Rattle.intervals.specs.declared.operation.RegId.{RegId}
use Rattle.records.specs.declared.line.Notation.{Notation}
use Rattle.records.specs.Run.{IsTextOfRecords, RunNames}
use Rattle.words.specs.Words.{asked_check}
use Rattle.check_command.specs.Checked.{ArePrinted}
use Rattle.check_command.proofs.checking.print_records.Goals as goal

-- a text that is so in one notation, by some names and by a flag, is so in equal ones
retold : (Is : Notation → RunNames → Bool → Type 0) (notation notation' : Notation) (names names' : RunNames) (only only' : Bool) → notation ≡ notation' → names ≡ names' → only ≡ only' → Is notation names only → Is notation' names' only'
retold Is notation notation' names names' only only' p q r is =
    subst (λ (x : Notation). Is x names' only') p (subst (λ (x : RunNames). Is notation x only') q (subst (λ (x : Bool). Is notation names x) r is))

-- a text that is so with one status and one order is so with equal ones
resaid : (Is : ℕ → Option RegId → Type 0) (status status' : ℕ) (order order' : Option RegId) → status ≡ status' → order ≡ order' → Is status order → Is status' order'
resaid Is status status' order order' p q is = subst (λ (x : ℕ). Is x order') p (subst (λ (x : Option RegId). Is status x) q is)

pub returns-clause-printed : goal.returns-clause-printed
returns-clause-printed g c =
    let old = g.W.Write.contents c.args.out.now in
    let new = g.W.Write.contents c.write_records.new.out in
    let outcome = c.args.outcome.now in
    let tower = outcome.tower.now in
    let run = outcome.judged.now.run in
    let form = c.form_of-form.result in
    let kept = map (λ (text : Vec ℕ Global). text.items) c.deref.result.now in
    let Is : Notation → RunNames → Bool → Type 0 = λ notation names only.
    (text : List ℕ) × IsTextOfRecords notation names only form.status tower run.closed run.logs.items form.order kept text × Appends old new text in
    let IsSaid : ℕ → Option RegId → Type 0 = λ status order.
    (text : List ℕ) × ArePrinted c.args.notation (asked_check c.args.asked.now) status tower run.closed run.logs.items order kept text × Appends old new text in
    on_ok_weaker c.write_records.result
    (λ is. (let told = resaid IsSaid _ _ _ _ c.form_of-form.ensures.status c.form_of-form.ensures.order (retold Is _ _ _ _ _ _ c.form_of-form.ensures.notation c.form_of-form.ensures.names c.form_of-form.ensures.only is) in (
      told.0,
      subst (λ (texts : List (Vec ℕ Global)). ArePrinted c.args.notation (asked_check c.args.asked.now) outcome.status tower run.closed run.logs.items outcome.order (map (λ (text : Vec ℕ Global). text.items) texts) told.0) c.deref.ensures.value told.1,
      told.2,
    )))
    c.write_records.ensures.records
