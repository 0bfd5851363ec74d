use Rattle.hack_values.proofs.cell.+depth_at_hand.Given as goal

abbrev pub decreases-Cell::depth_at_hand : goal.decreases-Cell::depth_at_hand
decreases-Cell::depth_at_hand l = goal.size-Cell::depth_at_hand l

abbrev pub decreases-VecVal::depth_at_hand : goal.decreases-VecVal::depth_at_hand
decreases-VecVal::depth_at_hand l = goal.size-VecVal::depth_at_hand l

abbrev pub decreases-DictVal::depth_at_hand : goal.decreases-DictVal::depth_at_hand
decreases-DictVal::depth_at_hand l = goal.size-DictVal::depth_at_hand l
