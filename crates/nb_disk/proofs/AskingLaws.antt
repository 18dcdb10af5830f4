-- What a drive asks for, by what it keeps, is what all that came calls for.
use Rattle.std.proofs.Common.{◌≡◌, ◌*◌, ℕ, false, List, [], ◌∷◌, ◌++◌, Some, refl, sym, ap, subst}
use Rattle.nb_iscsipdu.specs.declared.command.Command.TheVariants.{Read}
use Rattle.nb_iscsipdu.specs.PduTexts.{PduParts, pdu_text}
use Rattle.nb_disk.specs.declared.work.Work.{Work}
use Rattle.nb_disk.specs.declared.work.Work.TheVariants.{Testing, Sizing, Idle, Reading, Over}
use Rattle.nb_disk.specs.Histories.{DiskCall, SessionNumbers, asked, reading}
use Rattle.nb_disk.specs.DiskAnswers.{commands_put, command_after}
use Rattle.nb_disk.specs.DiskStands.{DiskStands}
use Rattle.nb_disk.specs.Steps.{KeptNumbers, work_is_over, has_work, work_asked, next_command, kept_putting, read_text, kept_asked}
use Rattle.nb_disk.proofs.StandsLemmas.{stands-asked}

-- a drive that goes on and waits for no answer has nothing at work
free-idle : (work : Work) → work_is_over work ≡ false → has_work work ≡ false → (capacity : ℕ) × (work ≡ Idle capacity)
free-idle (Testing checks) live free = absurd cc
free-idle Sizing live free = absurd cc
free-idle (Idle capacity) live free = (capacity, refl)
free-idle (Reading capacity wanted got) live free = absurd cc
free-idle (Over capacity) live free = absurd cc

pub asks-so : (o : SessionNumbers) (calls : List DiskCall) (k : KeptNumbers) (lba n : ℕ) → DiskStands o calls k → work_is_over k.work ≡ false → has_work k.work ≡ false
    → Some (read_text k lba n) ≡ Some (pdu_text (command_after o (reading o calls) (commands_put (reading o calls)) (Read lba n)))
asks-so o calls k lba n stands live free =
    let idle = free-idle k.work live free in
    ap (λ (x : PduParts). Some (pdu_text x)) (stands-asked o calls k idle.0 lba n stands idle.1).1

pub stands-so : (o : SessionNumbers) (calls : List DiskCall) (k : KeptNumbers) (lba n : ℕ) → DiskStands o calls k → work_is_over k.work ≡ false → has_work k.work ≡ false
    → DiskStands o (calls ++ asked lba n ∷ []) (kept_asked k lba n)
stands-so o calls k lba n stands live free =
    let idle = free-idle k.work live free in
    subst (λ (w : Work). DiskStands o (calls ++ asked lba n ∷ []) (kept_putting k k.exp_stat_sn w)) (ap (λ (w : Work). work_asked w n) (sym idle.1))
    (stands-asked o calls k idle.0 lba n stands idle.1).0
