use Rattle.std.proofs.Common.{◌≡◌, ◌+◌, ◌∷◌, [], ◌++◌, map, take, sym, ◌∙◌, ap, subst}
use Rattle.std.specs.List.{filter_map}
use Rattle.std.proofs.lemmas.List.{take_all, take_more}
use Rattle.std.proofs.lemmas.List.Elements.{All-nil, filter_map-append}
use Rattle.nb_drivelogin.specs.DriveInfos.{LoginsFit}
use Rattle.nb_drivelogin.specs.DriveLogins.{FitsTable}
use Rattle.nb_drivelogin.specs.DriveOpens.{DriveOpen, drive_open}
use Rattle.nb_network.specs.declared.living.Living.{Living}
use Rattle.nb_network.specs.Hooked.{hooked_by}
use Rattle.nb_network.proofs.hooked.hooked_among.Goals as goal

pub loop-living-init : goal.loop-living-init
loop-living-init c =
    let none : map drive_open c.new-opens.result.items ≡ [] = ap (map drive_open) c.new-opens.ensures.items in
    (none, subst LoginsFit (sym none) (All-nil (λ (h : DriveOpen). FitsTable h.login)))

pub loop-living-preserved : goal.loop-living-preserved
loop-living-preserved c =
    let list = c.args.list.now in
    let i = c.loop-living.living-index in
    let x = c.living-item.result in
    let taken : take (i + 1) list ≡ take i list ++ x ∷ [] = take_more list i x c.loop-living-test.true ∙ ap (λ (y : Living). take i list ++ y ∷ []) (sym c.living-item.is) in (
      c.in_ok-push_hooked.ensures.opens
          ∙ (ap (λ z. z ++ filter_map hooked_by (x ∷ [])) c.loop-living.invariant.0
          ∙ (sym (filter_map-append hooked_by (take i list) (x ∷ [])) ∙ ap (filter_map hooked_by) (sym taken))),
      c.in_ok-push_hooked.ensures.fits c.loop-living.invariant.1,
    )

pub returns-clause-opens : goal.returns-clause-opens
returns-clause-opens c = c.loop-living.invariant.0 ∙ ap (filter_map hooked_by) (take_all c.loop-living.living-index c.args.list.now c.loop-living-test.false)

pub returns-clause-fits : goal.returns-clause-fits
returns-clause-fits c = c.loop-living.invariant.1
