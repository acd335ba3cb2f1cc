-- Each code of each fault is listed.
use Rattle.std.proofs.Common.{arith}
use Rattle.intervals.specs.declared.refusal.Refusal.{Refusal}
use Rattle.intervals.specs.Code.{refusal_code}
use Rattle.tower_file.specs.declared.fault.TowerFault.{TowerFault}
use Rattle.tower_file.specs.Tower.{tower_fault_code}
use Rattle.jepsen_form.specs.declared.fault.FormFault.{FormFault}
use Rattle.jepsen_form.specs.Code.{form_fault_code}
use Rattle.pairing.specs.declared.fault.PairFault.{PairFault}
use Rattle.pairing.specs.Code.{pair_fault_code}
use Rattle.shards.specs.declared.fault.ShardFault.{ShardFault}
use Rattle.shards.specs.Code.{shard_fault_code}
use Rattle.logs.specs.declared.log.BreakCode.{BreakCode}
use Rattle.logs.specs.Code.{break_code_of}
use Rattle.texts.specs.Codes.{NamesItself}

pub refusal_listed : (refusal : Refusal) → NamesItself (refusal_code refusal)
refusal_listed refusal = (grind arith, grind arith)

pub tower_listed : (fault : TowerFault) → NamesItself (tower_fault_code fault)
tower_listed fault = (grind arith, grind arith)

pub form_listed : (fault : FormFault) → NamesItself (form_fault_code fault)
form_listed fault = (grind arith, grind arith)

pub pair_listed : (fault : PairFault) → NamesItself (pair_fault_code fault)
pair_listed fault = (grind arith, grind arith)

pub shard_listed : (fault : ShardFault) → NamesItself (shard_fault_code fault)
shard_listed fault = (grind arith, grind arith)

pub break_listed : (code : BreakCode) → NamesItself (break_code_of code)
break_listed code = (grind arith, grind arith)
