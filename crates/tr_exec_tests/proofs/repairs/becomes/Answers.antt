use Rattle.tr_exec_tests.proofs.repairs.becomes.Goals as goal

pub move_pixels-requires : goal.move_pixels-requires
move_pixels-requires g c = λ p t. rw (← c.size.ensures.value) (c.movable-within.ensures p t)
