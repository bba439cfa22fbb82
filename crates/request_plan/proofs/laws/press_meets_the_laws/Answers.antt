use Rattle.request_plan.proofs.PressLaws.{press-keeps, press-clean, press-turns, press-cuts, press-late, press-quiet}
use Rattle.request_plan.proofs.PressLaws.{press-notes, press-unnoted, press-tells, folder-ends, folder-stops}
use Rattle.request_plan.proofs.PressLaws.{stays_jammed, two_sheets, third_is_cut, third_is_late, third_halt}
use Rattle.request_plan.proofs.PressLaws.{third_pages, late-noted, handed, refused}
use Rattle.request_plan.proofs.laws.press_meets_the_laws.Goals as goal

pub returns-clause-keeps : goal.returns-clause-keeps
returns-clause-keeps c = press-keeps

pub returns-clause-clean : goal.returns-clause-clean
returns-clause-clean c = press-clean

pub returns-clause-turns : goal.returns-clause-turns
returns-clause-turns c = press-turns

pub returns-clause-cuts : goal.returns-clause-cuts
returns-clause-cuts c = press-cuts

pub returns-clause-late : goal.returns-clause-late
returns-clause-late c = press-late

pub returns-clause-quiet : goal.returns-clause-quiet
returns-clause-quiet c = press-quiet

pub returns-clause-notes : goal.returns-clause-notes
returns-clause-notes c = press-notes

pub returns-clause-unnoted : goal.returns-clause-unnoted
returns-clause-unnoted c = press-unnoted

pub returns-clause-tells : goal.returns-clause-tells
returns-clause-tells c = press-tells

pub returns-clause-folder_ends : goal.returns-clause-folder_ends
returns-clause-folder_ends c = folder-ends

pub returns-clause-folder_stops : goal.returns-clause-folder_stops
returns-clause-folder_stops c = folder-stops

pub returns-clause-for_good : goal.returns-clause-for_good
returns-clause-for_good c = stays_jammed

pub returns-clause-two_sheets : goal.returns-clause-two_sheets
returns-clause-two_sheets c = two_sheets

pub returns-clause-third_is_cut : goal.returns-clause-third_is_cut
returns-clause-third_is_cut c = third_is_cut

pub returns-clause-third_is_late : goal.returns-clause-third_is_late
returns-clause-third_is_late c = third_is_late

pub returns-clause-third_halt : goal.returns-clause-third_halt
returns-clause-third_halt c = third_halt

pub returns-clause-third_pages : goal.returns-clause-third_pages
returns-clause-third_pages c = third_pages

pub returns-clause-late_pages : goal.returns-clause-late_pages
returns-clause-late_pages c = late-noted

pub returns-clause-handed : goal.returns-clause-handed
returns-clause-handed c = handed

pub returns-clause-refused : goal.returns-clause-refused
returns-clause-refused c = refused
