use Rattle.std.proofs.Common.{◌∷◌, [], map, refl, subst}
use Rattle.nb_defs.specs.Causes.{ok}
use Rattle.nb_defs.specs.Records.{out_texts, result, text}
use Rattle.nb_record.specs.Logged.{Puts}
use Rattle.nb_runner.proofs.Puts.{Puts-outs}
use Rattle.nb_client.proofs.Conclude.{boots_leads, boots_well, if_all}
use Rattle.nb_client.proofs.Nested.{fails_leads, keeps_leads, runs_leads, tells_leads}
use Rattle.nb_client.proofs.Results.{if_ok}
use Rattle.nb_client.proofs.site.Site.lead.Goals as goal

pub returns-in-Keeps : goal.returns-in-Keeps
returns-in-Keeps c =
    let now = c.args.self.now in
    let puts : Puts c.args.out.now c.go_on_with.new.out (out_texts (result ok ∷ [])) = subst (λ z. Puts c.args.out.now c.go_on_with.new.out (out_texts (result z ∷ []))) c.cause.ensures c.go_on_with.ensures.puts in
    rw (c.in-Keeps.is, c.go_on_with.ensures.stage, c.cause.ensures) (keeps_leads now c.args.script c.requires.sound now refl refl refl puts)

pub returns-in-Tells : goal.returns-in-Tells
returns-in-Tells c =
    let now = c.args.self.now in
    let lines = c.in-Tells.lines in
    let out = c.go_on_with-in-Tells.new.out in
    let first : Puts c.args.out.now c.put_lines.new.out (out_texts (map text lines)) = subst (λ xs. Puts c.args.out.now c.put_lines.new.out (out_texts (map text xs))) c.as_slice.ensures c.put_lines.ensures in
    let last : Puts c.put_lines.new.out out (out_texts (result ok ∷ [])) = subst (λ z. Puts c.put_lines.new.out out (out_texts (result z ∷ []))) c.cause-in-Tells.ensures c.go_on_with-in-Tells.ensures.puts in
    rw (c.in-Tells.is, c.go_on_with-in-Tells.ensures.stage, c.cause-in-Tells.ensures)
    (tells_leads now c.args.script c.requires.sound lines now refl refl refl (Puts-outs (map text lines) (result ok ∷ []) first last))

pub returns-in-Fails : goal.returns-in-Fails
returns-in-Fails c =
    let now = c.args.self.now in
    rw (c.in-Fails.is, c.go_on_with-in-Fails.ensures.stage) (fails_leads now c.args.script c.requires.sound c.in-Fails.cause now refl refl refl c.go_on_with-in-Fails.ensures.puts)

pub returns-in-Boots : goal.returns-in-Boots
returns-in-Boots c =
    let now = c.args.self.now in
    let e = c.begin_handing.ensures in
    let kernel = c.in-Boots.kernel in
    let well = boots_well c.args.conclusion kernel c.args.script.depth c.requires.well.0 now.world.state.images c.in-Boots.is c.requires.well.1 in
    rw c.in-Boots.is (if_all c.begin_handing.result (λ st is used shuts. rw is.1 (boots_leads now c.begin_handing.new.self c.args.script kernel is.0 is.2 c.requires.sound well.0 well.1 used shuts)) e.stage e.used e.shuts)

pub returns-in-Runs : goal.returns-in-Runs
returns-in-Runs c =
    rw c.in-Runs.is (if_ok c.run.result (λ st r. runs_leads c.args.self.now c.args.script c.requires.sound c.in-Runs.image c.in-Runs.replace c.run.new.self st r) c.run.ensures)
