-- What comes of a record while a command waits for an open, by the stage, which stays in its place.
use Rattle.std.proofs.Common.{◌≡◌, ℕ, [], ◌∷◌, Option, Some, None, refl, sym, subst}
use Rattle.nb_defs.specs.Records.{In, IsIn}
use Rattle.nb_record.specs.Logged.{Logged}
use Rattle.nb_machine.specs.Running.{Running, anew}
use Rattle.nb_network.specs.declared.over.HasEnded.{HasEnded}
use Rattle.nb_client.specs.Serving.{ConcludesAt, IsAnswerAt, IsAnswerable, Serves, rested}
use Rattle.nb_client.specs.declared.pending.Answer.{Answer as TheAnswer}
use Rattle.nb_client.specs.Snapshots.{Snapshot}
use Rattle.nb_client.specs.Soundness.{IsSound, awaited_at, snapshot_at}
use Rattle.nb_client.specs.Turning.{GoesOnBy, IsServed}
use Rattle.nb_client.specs.declared.pending.Pending.{Pending}
use Rattle.nb_client.specs.declared.pending.Expected.TheVariants.{Open, Moment}
use Rattle.nb_client.specs.declared.site.Site.{Site}
use Rattle.nb_client.specs.declared.stage.Stage.{Stage}
use Rattle.nb_client.specs.declared.stage.Stage.TheVariants as stage
use Rattle.nb_client.proofs.Waits.{sound_after, waited_goes}

-- where an open is awaited, a command waits for it
waits_there : (st : Stage) (k : ℕ) → awaited_at st ≡ Some k → (s : Running) × ((p : Pending) × (st ≡ stage.Waiting s (Open p)))
waits_there (stage.Waiting s (Open p)) k is = (s, (p, refl))
waits_there (stage.Waiting s (Moment time)) k is = absurd (cc is)
waits_there stage.Ready k is = absurd (cc is)
waits_there (stage.Running s) k is = absurd (cc is)
waits_there (stage.Reaching s n) k is = absurd (cc is)
waits_there (stage.Yielded s) k is = absurd (cc is)
waits_there (stage.Returning s cause) k is = absurd (cc is)
waits_there (stage.HandingOff h) k is = absurd (cc is)
waits_there (stage.Left cause) k is = absurd (cc is)
waits_there stage.HandedOff k is = absurd (cc is)
waits_there stage.Stopped k is = absurd (cc is)

-- the command of this stage got what it waits for: that can be answered
pub answerable : {r : In} {before mid : Site} {old new : Logged} (st : Stage) (k : ℕ) (ended : Option HasEnded) (x : TheAnswer) → awaited_at st ≡ Some k → IsSound before.used before.world before.opens st →
    Serves r (Some k) ended before mid old new → IsAnswerAt st ended mid.opens (Some x) → IsAnswerable st x mid
answerable {r} {before} {mid} {old} {new} st k ended x is sound v by =
    let w = waits_there st k is in
    subst (λ z. awaited_at z ≡ Some k → IsSound before.used before.world before.opens z → IsAnswerAt z ended mid.opens (Some x) → IsAnswerable z x mid) (sym w.1.1)
    (λ same well at. sound_after w.0 w.1.0 ended (Some x) well (subst (λ a. Serves r a ended before mid old new) (sym same) v) at) is sound by

-- a step in which a command waits on
pub rests_goes : {r : In} {before mid : Site} {old new : Logged} (st : Stage) (k : ℕ) (ended : Option HasEnded) → IsIn r → IsServed r → awaited_at st ≡ Some k → IsSound before.used before.world before.opens st →
    Serves r (Some k) ended before mid old new → IsAnswerAt st ended mid.opens None → GoesOnBy (r ∷ []) (snapshot_at before st) (snapshot_at mid (rested st)) old new
rests_goes {r} {before} {mid} {old} {new} st k ended valid served is sound v by =
    let w = waits_there st k is in
    subst (λ x. awaited_at x ≡ Some k → IsSound before.used before.world before.opens x → IsAnswerAt x ended mid.opens None → GoesOnBy (r ∷ []) (snapshot_at before x) (snapshot_at mid (rested x)) old new) (sym w.1.1)
    (λ same well at. waited_goes w.0 w.1.0 ended None (snapshot_at mid (stage.Waiting (anew w.0) (Open w.1.0))) valid served well
    (subst (λ a. Serves r a ended before mid old new) (sym same) v) at (refl, refl)) is sound by

-- a step in which it got what it waits for
pub answered_goes : {r : In} {before mid : Site} {old l1 new : Logged} (st : Stage) (k : ℕ) (ended : Option HasEnded) (x : TheAnswer) (after : Snapshot) → IsIn r → IsServed r → awaited_at st ≡ Some k →
    IsSound before.used before.world before.opens st → Serves r (Some k) ended before mid old l1 → IsAnswerAt st ended mid.opens (Some x) → ConcludesAt st x mid after l1 new →
    GoesOnBy (r ∷ []) (snapshot_at before st) after old new
answered_goes {r} {before} {mid} {old} {l1} {new} st k ended x after valid served is sound v by does =
    let w = waits_there st k is in
    subst (λ z. awaited_at z ≡ Some k → IsSound before.used before.world before.opens z → IsAnswerAt z ended mid.opens (Some x) → ConcludesAt z x mid after l1 new → GoesOnBy (r ∷ []) (snapshot_at before z) after old new) (sym w.1.1)
    (λ same well at so. waited_goes w.0 w.1.0 ended (Some x) after valid served well (subst (λ a. Serves r a ended before mid old l1) (sym same) v) at so) is sound by does
