use Rattle.ascend_top.proofs.ForgedRow.{forged, not_flat}
use Rattle.ascend_top.proofs.HeadlineRows.{exits, no_other, cut, no_move}
use Rattle.ascend_top.proofs.laws.headlines_have_rows.Goals as goal

pub returns : goal.returns
returns c = record {
  exit = exits;
  other_status = no_other;
  cut_short = cut;
  no_move = no_move;
  forged = forged;
  not_flat = not_flat;
}
