-- How a run ends where a command waits.
use Rattle.std.proofs.Common.{◌≡◌, ℕ, ◌<◌, ◌==◌, ◌⊎◌, Bool, true, false, inr, List, [], ◌∷◌, length, refl, sym, ◌∙◌, arith}
use Rattle.nb_defs.specs.Records.{IsPartial, IsBroken}
use Rattle.nb_record.specs.Outside.{Outside, IsAtEnd}
use Rattle.nb_record.specs.Logged.{Logged}
use Rattle.nb_client.specs.Snapshots.{Snapshot}
use Rattle.nb_runner.specs.StatusNumber.{status_number}
use Rattle.nb_client.specs.Progressing.{AwaitsRecord}
use Rattle.nb_runner.specs.declared.status.Status.{Status}
use Rattle.nb_boot.specs.Shown.{IsFirst, BeginsWith, EndsWhere, ran_out, was_bad, was_full}
use Rattle.nb_boot.specs.Going.{Waits, IsEndStatus, IsClosing}
use Rattle.nb_boot.proofs.Standing.{stands_used, stands_awaits, stands_bad}
use Rattle.nb_boot.proofs.Following.{follows_counts}

-- no record may come
pub waits_bad : (n : ℕ) (held : List ℕ) (first now : Outside) (log : Logged) (c : Snapshot) (w : Waits n held first now log c) → AwaitsRecord c.stage → c.used < 4294967295 →
    IsBroken held ⊎ (BeginsWith held IsFirst ⊎ (IsPartial held × (0 < length held) × IsAtEnd now)) → EndsWhere w.goes.progress held now 6
waits_bad n held first now log c w h few b =
    was_bad (omega (arith, stands_used c w.goes.progress w.goes.stands, few)) (stands_bad c w.goes.progress held now w.goes.stands h b) refl

-- the input was used to its end
pub waits_out : (n : ℕ) (held : List ℕ) (first now : Outside) (log : Logged) (c : Snapshot) (w : Waits n held first now log c) → AwaitsRecord c.stage →
    held ≡ [] → IsAtEnd now → EndsWhere w.goes.progress held now 5
waits_out n held first now log c w h none end = ran_out (stands_awaits c w.goes.progress w.goes.stands h) none end refl

-- every record number was given
pub waits_full : (held : List ℕ) (first now : Outside) (log : Logged) (c : Snapshot) (w : Waits 4294967295 held first now log c) → AwaitsRecord c.stage →
    0 < length held → EndsWhere w.goes.progress held now 11
waits_full held first now log c w h some =
    was_full (follows_counts w.ins w.goes.going.outs w.goes.progress w.goes.going.came w.goes.going.follows ∙ w.counted) (stands_awaits c w.goes.progress w.goes.stands h) some refl

-- the input ended
pub waits_end : (s : Status) (n : ℕ) (held : List ℕ) (first now : Outside) (log : Logged) (c : Snapshot) (w : Waits n held first now log c) → AwaitsRecord c.stage →
    c.used < 4294967295 → IsPartial held → IsAtEnd now → IsEndStatus s held → EndsWhere w.goes.progress held now (status_number s)
waits_end s n [] first now log c w h few partial end e = rw e (waits_out n [] first now log c w h refl end)
waits_end s n (b ∷ bytes) first now log c w h few partial end e =
    rw e (waits_bad n (b ∷ bytes) first now log c w h few (inr (inr (partial, omega arith, end))))

-- DONE tells the end of an input
pub rest_closes : (s : Status) (held : List ℕ) → IsEndStatus s held → IsClosing s
rest_closes s [] e = rw e tt
rest_closes s (b ∷ bytes) e = rw e tt

-- the client counts the records used
pub waits_counts : (n : ℕ) (held : List ℕ) (first now : Outside) (log : Logged) (c : Snapshot) → Waits n held first now log c → c.used ≡ n
waits_counts n held first now log c w =
    sym (stands_used c w.goes.progress w.goes.stands) ∙ follows_counts w.ins w.goes.going.outs w.goes.progress w.goes.going.came w.goes.going.follows ∙ w.counted

-- a list of no length is empty
no_length : (n : ℕ) → (n == 0) ≡ true → n ≡ 0
no_length n e = grind arith

some_length : (n : ℕ) → (n == 0) ≡ false → 0 < n
some_length n e = grind arith

none_of : (bytes : List ℕ) → length bytes ≡ 0 → bytes ≡ []
none_of [] h = refl
none_of (x ∷ xs) h = absurd (omega (arith, h))

-- what is told to be empty is
pub nothing_held : (bytes : List ℕ) (b : Bool) → b ≡ (length bytes == 0) → b ≡ true → bytes ≡ []
nothing_held bytes b e h = none_of bytes (no_length (length bytes) (sym e ∙ h))

pub some_held : (bytes : List ℕ) (b : Bool) → b ≡ (length bytes == 0) → b ≡ false → 0 < length bytes
some_held bytes b e h = some_length (length bytes) (sym e ∙ h)
