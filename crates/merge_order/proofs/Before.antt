-- Which of two elements, or of what waits at two heads, goes before the other: at most one does, and where neither does
-- the two are alike.
use Rattle.std.proofs.Common.{◌≡◌, true, false, Option, Some, None, refl, arith}
use Rattle.std.proofs.lemmas.Bool.{ltb-true, ltb-false, lt-ltb, le-ltb}
use Rattle.intervals.specs.declared.operation.Moment.{Moment}
use Rattle.merge_order.specs.Order.{goes_first, goes_before}
use Rattle.merge_order.specs.declared.heads.TraceHead.{TraceHead}
use Rattle.merge_order.specs.declared.heads.TraceHead.TheVariants.{Ended, Waiting}

first_one_way : (a b : Option Moment) → goes_first a b ≡ true → goes_first b a ≡ false
first_one_way None None h = refl
first_one_way None (Some b) h = refl
first_one_way (Some a) None h = absurd (cc)
first_one_way (Some a) (Some b) h = le-ltb b.0 a.0 (omega (arith, ltb-true a.0 b.0 h))

first_not_after : (a b c : Option Moment) → goes_first a b ≡ false → goes_first b c ≡ false → goes_first a c ≡ false
first_not_after None None c h k = k
first_not_after None (Some b) c h k = absurd (cc)
first_not_after (Some a) b None h k = refl
first_not_after (Some a) None (Some c) h k = absurd (cc)
first_not_after (Some a) (Some b) (Some c) h k = le-ltb a.0 c.0 (omega (arith, ltb-false a.0 b.0 h, ltb-false b.0 c.0 k))

first_over : (a b c : Option Moment) → goes_first a b ≡ true → goes_first c b ≡ false → goes_first a c ≡ true
first_over None None c h k = absurd (cc)
first_over None (Some b) None h k = absurd (cc)
first_over None (Some b) (Some c) h k = refl
first_over (Some a) None c h k = absurd (cc)
first_over (Some a) (Some b) None h k = absurd (cc)
first_over (Some a) (Some b) (Some c) h k = lt-ltb a.0 c.0 (omega (arith, ltb-true a.0 b.0 h, ltb-false c.0 b.0 k))

-- of two heads at most one goes before the other
pub one_way : (a b : TraceHead) → goes_before a b ≡ true → goes_before b a ≡ false
one_way Ended b h = absurd (cc)
one_way (Waiting a) Ended h = refl
one_way (Waiting a) (Waiting b) h = first_one_way a b h

-- what does not go before a head that does not go before another does not go before that either
pub not_after : (a b c : TraceHead) → goes_before a b ≡ false → goes_before b c ≡ false → goes_before a c ≡ false
not_after Ended b c h k = refl
not_after (Waiting a) Ended c h k = absurd (cc)
not_after (Waiting a) (Waiting b) Ended h k = absurd (cc)
not_after (Waiting a) (Waiting b) (Waiting c) h k = first_not_after a b c h k

-- what goes before a head goes before whatever does not go before that head
pub goes_over : (a b c : TraceHead) → goes_before a b ≡ true → goes_before c b ≡ false → goes_before a c ≡ true
goes_over Ended b c h k = absurd (cc)
goes_over (Waiting a) Ended Ended h k = refl
goes_over (Waiting a) Ended (Waiting c) h k = absurd (cc)
goes_over (Waiting a) (Waiting b) Ended h k = refl
goes_over (Waiting a) (Waiting b) (Waiting c) h k = first_over a b c h k

-- nothing goes before what carries no moment
pub not_before_none : (a : TraceHead) → goes_before a (Waiting None) ≡ false
not_before_none Ended = refl
not_before_none (Waiting None) = refl
not_before_none (Waiting (Some a)) = refl

-- what does not go before a trace that has ended has ended too
pub has_ended : (a : TraceHead) → goes_before a Ended ≡ false → a ≡ Ended
has_ended Ended h = refl
has_ended (Waiting a) h = absurd (cc)
