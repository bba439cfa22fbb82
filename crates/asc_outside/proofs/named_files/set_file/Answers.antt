use Rattle.std.proofs.Common.{sym, refl, ◌∙◌, string_bytes}
use Rattle.std.proofs.lemmas.Bool.{cond-true, cond-false, false_from_ne_true}
use Rattle.std.proofs.lemmas.Map.Text.{btree_map_updates_text}
use Rattle.std.proofs.lemmas.Slice.Eq.{bytes_eq-Decides}
use Rattle.asc_outside.proofs.Entries.{file_of-update}
use Rattle.asc_outside.proofs.named_files.set_file.Goals as goal

pub returns-in-Ok-clause-set : goal.returns-in-Ok-clause-set
returns-in-Ok-clause-set c =
    let name = string_bytes c.args.name in
    let found = btree_map_updates_text name c.args.files.now c.insert.new.self _ c.in-Ok.ensures.updates name in
    file_of-update c.args.files.now.entries c.insert.new.self.entries name c.args.bytes name found
    ∙ cond-true _ _ _ ((bytes_eq-Decides name name).1 refl)

pub returns-in-Ok-clause-others : goal.returns-in-Ok-clause-others
returns-in-Ok-clause-others c = λ other differs.
    let name = string_bytes c.args.name in
    let found = btree_map_updates_text name c.args.files.now c.insert.new.self _ c.in-Ok.ensures.updates other in
    file_of-update c.args.files.now.entries c.insert.new.self.entries name c.args.bytes other found
    ∙ cond-false _ _ _ (false_from_ne_true _ (λ same. differs (sym ((bytes_eq-Decides name other).0 same))))
