-- The two steps of the walk call each other by turns; the legs that are left fall by one at each call.
use Rattle.labels.proofs.+level_step_upright_step.Given as goal

abbrev pub decreases-level_step : goal.decreases-level_step
decreases-level_step l = l.legs

abbrev pub decreases-upright_step : goal.decreases-upright_step
decreases-upright_step l = l.legs
