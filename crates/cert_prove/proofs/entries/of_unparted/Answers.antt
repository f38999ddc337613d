use Rattle.cert_prove.proofs.MadeLacking.{tree_passes, set_is_stuck}
use Rattle.cert_prove.proofs.entries.of_unparted.Goals as goal

pub returns-in-Stuck : goal.returns-in-Stuck
returns-in-Stuck c = λ table m s blames. set_is_stuck _ table _ _ _ m s _ c.in-Stuck.is blames

pub returns-in-Limit : goal.returns-in-Limit
returns-in-Limit c = λ table m s blames. tree_passes _ table _ m s _ c.in-Limit.is blames
