use Rattle.std.proofs.Common.{Some, sym, ◌∙◌, ap}
use Rattle.std.specs.Option.{option_map}
use Rattle.asc_outside.proofs.Entries.{file_of-file_pairs}
use Rattle.asc_outside.specs.MemHost.{file_of}
use Rattle.asc_outside.proofs.mem_host.MemHost.file.Goals as goal

pub returns-in-Some : goal.returns-in-Some
returns-in-Some c =
    ap Some c.as_slice.ensures.value
    ∙ ap (option_map (λ bytes. bytes.items)) c.in-Some.ensures.value
    ∙ sym (file_of-file_pairs c.self.inside.files.entries c.args.name.now)
    ∙ ap (λ host. file_of host.files c.args.name.now) c.self.view_is

pub returns-in-None : goal.returns-in-None
returns-in-None c =
    ap (option_map (λ bytes. bytes.items)) c.in-None.ensures.value
    ∙ sym (file_of-file_pairs c.self.inside.files.entries c.args.name.now)
    ∙ ap (λ host. file_of host.files c.args.name.now) c.self.view_is
