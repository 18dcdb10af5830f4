-- Whether all that was sent by a port was taken where it is closed before the other end of its link: our own.
use Rattle.std.specs.Prelude.{◌≡◌, ◌≢◌, ℕ, ◌+◌, ◌-◌, ◌≤◌, ◌==◌, ◌||◌, Bool, false, List, [], ◌∷◌, if◌then◌else◌}
use Rattle.nb_ledger.specs.declared.port.Port.{Port}
use Rattle.nb_ledger.specs.declared.event.GraphEvent.{GraphEvent}
use Rattle.nb_ledger.specs.declared.event.GraphEvent.TheVariants.{Made, Held, LetGo, Plugged, Entered, Left, Dropped, Closed, Unplugged, Freed}
use Rattle.nb_effects.specs.Trace.{Nature}
use Rattle.nb_effects.specs.Deeds.{Deed, writes, begins, calls, turns, no_place, Stage, Shut, MustHear, Holds, Makes, MustMake, MustBegin, MustPlug, Closes, MustShut, Ends, Sends, Gives, Offers, Ticks, Returns, Wants, MustUnplug, Settles, LetsAllGo}
use Rattle.nb_effects.specs.Accounts.{Account, after_note, account_after_call, rests, is_same_port}

-- This event closes the port p, with another cause than where a make of its object found no place.
abbrev pub IsClosedBy : Port → GraphEvent → Type 0
IsClosedBy p (Made x kind) = ⊥
IsClosedBy p (Held x) = ⊥
IsClosedBy p (LetGo x) = ⊥
IsClosedBy p (Plugged u l) = ⊥
IsClosedBy p (Entered r by) = ⊥
IsClosedBy p (Left r) = ⊥
IsClosedBy p (Dropped r) = ⊥
IsClosedBy p (Closed r cause) = (r ≡ p) × (cause ≢ no_place)
IsClosedBy p (Unplugged r t) = ⊥
IsClosedBy p (Freed x) = ⊥

-- the port p is closed after this event: it is closed by it, its link is unplugged, or its object is freed
abbrev pub leaves_closed : Port → GraphEvent → Bool
leaves_closed p (Made x kind) = false
leaves_closed p (Held x) = false
leaves_closed p (LetGo x) = false
leaves_closed p (Plugged u l) = false
leaves_closed p (Entered r by) = false
leaves_closed p (Left r) = false
leaves_closed p (Dropped r) = false
leaves_closed p (Closed r cause) = is_same_port p r
leaves_closed p (Unplugged r t) = is_same_port p r || is_same_port p t
leaves_closed p (Freed x) = p.obj.0 == x.0

-- how many entries of the object x run
abbrev pub running_after : ℕ → ℕ → GraphEvent → ℕ
running_after x n (Made y kind) = n
running_after x n (Held y) = n
running_after x n (LetGo y) = n
running_after x n (Plugged u l) = n
running_after x n (Entered r by) = if x == r.obj.0 then n + 1 else n
running_after x n (Left r) = if x == r.obj.0 then n - 1 else n
running_after x n (Dropped r) = n
running_after x n (Closed r cause) = n
running_after x n (Unplugged r t) = n
running_after x n (Freed y) = n

-- A link in the middle of a call, by the events alone: how many entries of its first end's object run, and whether one of
-- its ends was closed.
pub record LinkWatch : Type 0 where
  pub running : ℕ
  pub ended : Bool

-- where a call begins
abbrev pub link_watch_begun : LinkWatch
link_watch_begun = record { running = 0; ended = false }

abbrev pub watch_event : Port → Port → LinkWatch → GraphEvent → LinkWatch
watch_event p q w e = record { running = running_after p.obj.0 w.running e; ended = w.ended || (leaves_closed p e || leaves_closed q e) }

abbrev pub watch : Port → Port → LinkWatch → List GraphEvent → LinkWatch
watch p q w [] = w
watch p q w (e ∷ es) = watch p q (watch_event p q w e) es

-- Where p is closed before q is, and at most one entry of its object runs (the one that asks for the close; none where it
-- is closed from outside), q took all that p sent till then. Nothing is said of a p that is closed
-- * after q, as the other end of its link: q may not have taken all then;
-- * by an entry within another entry of its object. What that one sent may still be on its way, as where q's object took a
--   part of it and sent something down by the same link, before the rest was given to it: the rest is dropped;
-- * with the cause of a make that found no place: it closes all ports of its object before the entry's messages leave.
-- An entry that runs out of memory sends nothing, and closes its object's ports like any other. What p sends after it is
-- closed is dropped.
abbrev pub IsDrained : {N L : Type 0} → Nature N L → Port → Port → Account → Account → LinkWatch → List (Deed N L) → Type 0
IsDrained known p q a b w [] = Unit {0}
IsDrained known p q a b w (writes e ∷ ds) =
    (IsClosedBy p e → w.ended ≡ false → w.running ≤ 1 → a.sent ≡ b.taken)
    × IsDrained known p q (after_note p a e) (after_note q b e) (watch_event p q w e) ds
IsDrained known p q a b w (begins x n ∷ ds) = IsDrained known p q a b w ds
IsDrained known p q a b w (turns u ∷ ds) = IsDrained known p q a b w ds
IsDrained known p q a b w (calls y e ∷ ds) =
    IsDrained known p q (if p.obj.0 == y then account_after_call known p a e else rests a) (if q.obj.0 == y then account_after_call known q b e else rests b) w ds

-- what may be asked for from outside: nothing of it is a message on its way, or an entry
abbrev pub IsFromOutside : {N L : Type 0} → Stage N L → Type 0
IsFromOutside (Shut at cause) = ⊥
IsFromOutside (MustHear at cause) = ⊥
IsFromOutside (Holds at by msg) = ⊥
IsFromOutside (Makes at node) = ⊥
IsFromOutside (MustMake object node) = Unit {0}
IsFromOutside (MustBegin object node) = ⊥
IsFromOutside (MustPlug upper lower) = Unit {0}
IsFromOutside (Closes at cause) = Unit {0}
IsFromOutside (MustShut at cause) = ⊥
IsFromOutside (Ends after cause) = Unit {0}
IsFromOutside (Sends at msg) = ⊥
IsFromOutside (Gives at msg) = ⊥
IsFromOutside (Offers at msg) = Unit {0}
IsFromOutside (Ticks object) = Unit {0}
IsFromOutside (Returns object load) = ⊥
IsFromOutside (Wants event) = Unit {0}
IsFromOutside (MustUnplug first other) = ⊥
IsFromOutside (Settles object) = ⊥
IsFromOutside LetsAllGo = Unit {0}

abbrev pub AreFromOutside : {N L : Type 0} → List (Stage N L) → Type 0
AreFromOutside [] = Unit {0}
AreFromOutside (g ∷ gs) = IsFromOutside g × AreFromOutside gs
