-- What the calls of a feeder come to, by the access that it has.
use Rattle.std.proofs.Common.{◌≡◌, Result, Ok, Err, IfOk, IfErr, sym, subst}
use Rattle.std.specs.Prelude.{OnOk}
use Rattle.shards.specs.declared.fault.ShardFault.{ShardFault}
use Rattle.feeders.specs.Access.{AccessModel}

-- of a result that is right both hold
pub ok_both : {T E : Type 0} {P Q R : T → Type 0} (result : Result T E) → IfOk result P → IfOk result Q → ((x : T) → P x → Q x → R x) → IfOk result R
ok_both (Ok x) first second both = both x first second
ok_both (Err e) first second both = tt

-- what is refused by one access is refused by it as it is seen
pub refused_as : {T : Type 0} (R : AccessModel → ShardFault → Type 0) (result answered : Result T ShardFault) (access seen : AccessModel) → result ≡ answered → access ≡ seen → IfErr answered (R access) → IfErr result (R seen)
refused_as {T} R result answered access seen same is refused =
    subst (λ (r : Result T ShardFault). IfErr r (R seen)) (sym same) (subst (λ (a : AccessModel). IfErr answered (R a)) is refused)

-- where a call was answered, what holds so holds
pub kept_as : {T E : Type 0} {P Q : Type 0} (result answered : Result T E) → result ≡ answered → OnOk answered P → (P → Q) → OnOk result Q
kept_as {T} {E} {P} {Q} result (Ok x) same is so = subst (λ (r : Result T E). OnOk r Q) (sym same) (so is)
kept_as {T} {E} {P} {Q} result (Err e) same is so = subst (λ (r : Result T E). OnOk r Q) (sym same) tt

pub on_ok : {T E : Type 0} {P : Type 0} (result : Result T E) → P → OnOk result P
on_ok (Ok x) is = is
on_ok (Err e) is = tt

pub on_ok_of : {T E : Type 0} {P Q : T → Type 0} {R : Type 0} (result : Result T E) → IfOk result P → IfOk result Q → ((x : T) → P x → Q x → R) → OnOk result R
on_ok_of (Ok x) first second both = both x first second
on_ok_of (Err e) first second both = tt
