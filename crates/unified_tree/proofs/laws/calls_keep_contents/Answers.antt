use Rattle.unified_tree.proofs.CutKept.{read_cut_keeps_always, read_cut_keeps_sound, read_cut_keeps_home}
use Rattle.unified_tree.proofs.CutKept.{write_cut_keeps_always, write_cut_keeps_sound, write_cut_keeps_home}
use Rattle.unified_tree.proofs.Kept.{read_keeps_always, read_keeps_sound, read_keeps_home, take_keeps_always}
use Rattle.unified_tree.proofs.Kept.{take_keeps_sound, take_keeps_home, put_keeps_always, put_keeps_sound}
use Rattle.unified_tree.proofs.Kept.{put_keeps_home, write_keeps_always, write_keeps_sound, write_keeps_home}
use Rattle.unified_tree.proofs.Kept.{put_cut_keeps_always, put_cut_keeps_sound}
use Rattle.unified_tree.proofs.laws.calls_keep_contents.Goals as goal

pub returns-clause-read_always : goal.returns-clause-read_always
returns-clause-read_always c = read_keeps_always

pub returns-clause-read_sound : goal.returns-clause-read_sound
returns-clause-read_sound c = read_keeps_sound

pub returns-clause-read_home : goal.returns-clause-read_home
returns-clause-read_home c = λ keys lawful old tap tap2 tree tree2 start asked p x none. read_keeps_home
    keys old tap tap2 tree tree2 start asked p x lawful none

pub returns-clause-read_cut_always : goal.returns-clause-read_cut_always
returns-clause-read_cut_always c = read_cut_keeps_always

pub returns-clause-read_cut_sound : goal.returns-clause-read_cut_sound
returns-clause-read_cut_sound c = read_cut_keeps_sound

pub returns-clause-read_cut_home : goal.returns-clause-read_cut_home
returns-clause-read_cut_home c = λ keys lawful old tap tap2 tree tree2 start asked p stop x. read_cut_keeps_home
    keys old tap tap2 tree tree2 start asked p stop x lawful

pub returns-clause-take_always : goal.returns-clause-take_always
returns-clause-take_always c = take_keeps_always

pub returns-clause-take_sound : goal.returns-clause-take_sound
returns-clause-take_sound c = take_keeps_sound

pub returns-clause-take_home : goal.returns-clause-take_home
returns-clause-take_home c = take_keeps_home

pub returns-clause-put_always : goal.returns-clause-put_always
returns-clause-put_always c = put_keeps_always

pub returns-clause-put_sound : goal.returns-clause-put_sound
returns-clause-put_sound c = put_keeps_sound

pub returns-clause-put_home : goal.returns-clause-put_home
returns-clause-put_home c = put_keeps_home

pub returns-clause-write_always : goal.returns-clause-write_always
returns-clause-write_always c = write_keeps_always

pub returns-clause-write_sound : goal.returns-clause-write_sound
returns-clause-write_sound c = write_keeps_sound

pub returns-clause-write_home : goal.returns-clause-write_home
returns-clause-write_home c = write_keeps_home

pub returns-clause-write_cut_always : goal.returns-clause-write_cut_always
returns-clause-write_cut_always c = λ keys lawful tap tap2 tree tree2 leaf level used x. write_cut_keeps_always
    keys tap tap2 tree tree2 leaf level used x lawful

pub returns-clause-write_cut_sound : goal.returns-clause-write_cut_sound
returns-clause-write_cut_sound c = write_cut_keeps_sound

pub returns-clause-write_cut_home : goal.returns-clause-write_cut_home
returns-clause-write_cut_home c = write_cut_keeps_home

pub returns-clause-put_cut_always : goal.returns-clause-put_cut_always
returns-clause-put_cut_always c = put_cut_keeps_always

pub returns-clause-put_cut_sound : goal.returns-clause-put_cut_sound
returns-clause-put_cut_sound c = put_cut_keeps_sound
