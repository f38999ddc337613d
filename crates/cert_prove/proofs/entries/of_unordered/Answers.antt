use Rattle.cert_prove.proofs.MadeLacking.{plan_passes, plan_lacks}
use Rattle.cert_prove.proofs.entries.of_unordered.Goals as goal

pub returns-in-Lacking : goal.returns-in-Lacking
returns-in-Lacking c = λ table z f blames first. plan_lacks _ table _ _ _ z f _ _ c.in-Lacking.is blames first

pub returns-in-TooLong : goal.returns-in-TooLong
returns-in-TooLong c = λ table z f blames first. plan_passes _ table _ _ _ z f _ c.in-TooLong.is blames first
