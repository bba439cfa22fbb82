use Rattle.std.proofs.Common.{option_map, sym, ap, ◌∙◌}
use Rattle.asc_base.proofs.Lookups.{find-place, find-absent}
use Rattle.posmap_lookaside.specs.Held.{is_of}
use Rattle.posmap_lookaside.specs.declared.held.Held.{Held}
use Rattle.posmap_lookaside.proofs.lookaside.group_of.Goals as goal

pub returns-in_err-place : goal.returns-in_err-place
returns-in_err-place c =
    let at = sym c.place_of.ensures ∙ c.in_err-place.was in
    c.from_residual.ensures
    ∙ ap (option_map (λ (held : Held). held.group)) (sym (find-absent (is_of c.args.address) c.args.list.now at))

pub returns : goal.returns
returns c =
    let at = sym c.place_of.ensures ∙ c.in_ok-place.was in
    ap (option_map (λ (held : Held). held.group))
    (sym (find-place (is_of c.args.address) c.args.list.now c.in_ok-place.place c.index-list-place.result at))
