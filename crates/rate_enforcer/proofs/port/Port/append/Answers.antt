use Rattle.std.proofs.Common.{◌≡◌, None, arith, refl, subst, sym}
use Rattle.oram_stash.proofs.Apart.{AreApart-append}
use Rattle.oram_stash.specs.Entries.{AreApart, held}
use Rattle.rate_enforcer.proofs.Contents.{was_absent, append_right}
use Rattle.rate_enforcer.proofs.StateLaws.{hand_grown}
use Rattle.rate_enforcer.proofs.port.Port.append.Goals as goal

pub returns-clause-rests : goal.returns-clause-rests
returns-clause-rests g c notes memory tap r =
    let absent : held c.args.self.now.tree.hand c.args.entry.address ≡ None =
    was_absent (held c.args.self.now.tree.hand c.args.entry.address) c.in-Ok.ensures.refused (λ h. absurd (cc)) in
    hand_grown c.put.new.self c.put.ensures.same c.put.ensures.seed c.put.ensures.path
    (omega (arith, c.held-held.ensures.held, c.if-held-self.false))
    (subst AreApart (sym c.in-Ok.ensures.hand)
    (AreApart-append c.args.self.now.tree.hand c.args.entry r.is_for.apart absent)) r

pub returns-clause-step : goal.returns-clause-step
returns-clause-step g c memory tap =
    let absent : held c.args.self.now.tree.hand c.args.entry.address ≡ None =
    was_absent (held c.args.self.now.tree.hand c.args.entry.address) c.in-Ok.ensures.refused (λ h. absurd (cc)) in (
      refl,
      record {
        going = c.in_default.is;
        others = record {
          clock = refl;
          tree = c.put.ensures.same;
          seed = c.put.ensures.seed;
          memory = refl;
          tap = refl;
        };
        right = append_right c.args.self.now.tree.stash c.args.entry.address c.args.self.now.tree.hand
            c.put.new.self.hand c.args.entry absent c.in-Ok.ensures.hand
            (omega (arith, c.held-held.ensures.held, c.if-held-self.false, c.requires.stash));
        hand = c.in-Ok.ensures.hand;
        rests = λ notes r. hand_grown c.put.new.self c.put.ensures.same c.put.ensures.seed c.put.ensures.path
            (omega (arith, c.held-held.ensures.held, c.if-held-self.false))
            (subst AreApart (sym c.in-Ok.ensures.hand)
            (AreApart-append c.args.self.now.tree.hand c.args.entry r.is_for.apart absent)) r;
      },
    )
