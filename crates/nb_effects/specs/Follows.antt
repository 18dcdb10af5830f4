-- What happens, as a machine with a stack: each deed uses up what stands on top of it, and puts what that becomes there.
use Rattle.std.specs.Prelude.{◌≡◌, ℕ, ◌+◌, ◌<◌, ◌≤◌, Bool, true, false, List, [], ◌∷◌, ◌++◌, Some, None, min, max}
use Rattle.nb_terms.specs.declared.cause.Cause.{Cause}
use Rattle.nb_ledger.specs.declared.port.Port.{Port}
use Rattle.nb_ledger.specs.declared.port.ObjId.{ObjId}
use Rattle.nb_ledger.specs.declared.port.PortState.TheVariants as port
use Rattle.nb_ledger.specs.declared.event.Way.{Way}
use Rattle.nb_ledger.specs.declared.event.Way.TheVariants as way
use Rattle.nb_ledger.specs.declared.event.GraphEvent.TheVariants.{Made, Held, LetGo, Plugged, Entered, Left, Dropped, Closed, Unplugged, Freed}
use Rattle.nb_ledger.specs.GraphRun.{IsOpen}
use Rattle.nb_ledger.specs.Ledger.{open_count}
use Rattle.nb_effects.specs.declared.effects.Fx.{Fx}
use Rattle.nb_effects.specs.Whole.{port_at}
use Rattle.nb_effects.specs.Trace.{Nature, Said, up, down, closed, time, regain, silence}
use Rattle.nb_effects.specs.Deeds.{Deed, writes, begins, calls, turns, Stage, Shut, MustHear, Holds, Makes, MustMake, MustBegin, MustPlug, Closes, MustShut, Ends, Sends, Gives, Offers, Ticks, Returns, Wants, MustUnplug, Settles, LetsAllGo, is_shut, is_full, comes_to, is_reached, is_dead, arrives, goes_out, stays, lets_go, none_held, all_closes, no_place, rest, runs_of, settles_by}
use Rattle.nb_effects.specs.Scene.{Scene, IsGraphFull, state_at, after_noted}

-- What a deed uses up, where the graph's book is seen so, and what that becomes.
pub data Becomes {N L : Type 0} (known : Nature N L) (now : ℕ) (s : Scene) : Stage N L → Deed N L → List (Stage N L) → Type 0 where
  -- a port is closed: alone, or with its peer, whose node hears of it with the same cause; or it was closed already
  closes_alone : (p : Port) (c : Cause) → state_at s p ≡ port.Open → Becomes known now s (Closes p c) (writes (Closed p c)) []
  closes_link : (p q : Port) (c : Cause) → state_at s p ≡ port.Linked q → Becomes known now s (Closes p c) (writes (Closed p c)) (MustShut q c ∷ MustUnplug p q ∷ [])
  closes_none : (p : Port) (c : Cause) → open_count (state_at s p) ≡ 0 → Becomes known now s (Closes p c) (turns (is_shut p)) []
  peer_closes : (p : Port) (c : Cause) → Becomes known now s (MustShut p c) (writes (Closed p c)) (Shut p c ∷ [])
  peer_enters : (p : Port) (c : Cause) → Becomes known now s (Shut p c) (writes (Entered p way.Close)) (MustHear p c ∷ [])
  peer_hears : (x slot : ℕ) (c : Cause) (fx : Fx N L) → Becomes known now s (MustHear (port_at x slot) c) (calls x (closed slot c now fx)) (runs_of known x silence true fx ++ Holds (port_at x slot) way.Close None ∷ [])
  unplugs : (p q : Port) → Becomes known now s (MustUnplug p q) (writes (Unplugged p q)) (Settles (min p.obj.0 q.obj.0) ∷ Settles (max p.obj.0 q.obj.0) ∷ [])
  -- an object whose count fell is freed, or stays
  frees : (x : ObjId) → Becomes known now s (Settles x.0) (writes (Freed x)) []
  keeps : (x : ℕ) → Becomes known now s (Settles x) (turns (stays x)) []
  -- a message leaves: over a link, or to the outside, or it is dropped where its port is closed
  passes : (p q : Port) (m : Said) → state_at s p ≡ port.Linked q → Becomes known now s (Sends p m) (turns (arrives p q)) (Gives q m ∷ [])
  leaves : (p : Port) (m : Said) → state_at s p ≡ port.Open → Becomes known now s (Sends p m) (turns (goes_out p m)) []
  drops : (p : Port) (m : Said) → open_count (state_at s p) ≡ 0 → Becomes known now s (Sends p m) (writes (Dropped p)) []
  -- its load comes back
  returns : (x : ℕ) (l : L) → Becomes known now s (Returns x l) (calls x (regain l)) []
  -- a message that came by a link enters
  enters_up : (p : Port) (m : Said) → 1 ≤ p.slot → IsOpen (state_at s p) → Becomes known now s (Gives p m) (writes (Entered p way.Up)) (Holds p way.Up (Some m) ∷ [])
  enters_down : (p : Port) (m : Said) → p.slot ≡ 0 → IsOpen (state_at s p) → Becomes known now s (Gives p m) (writes (Entered p way.Down)) (Holds p way.Down (Some m) ∷ [])
  -- one that is given from outside enters by an open port without a link, and is dropped at any other
  offered_up : (p : Port) (m : Said) → 1 ≤ p.slot → state_at s p ≡ port.Open → Becomes known now s (Offers p m) (writes (Entered p way.Up)) (Holds p way.Up (Some m) ∷ [])
  offered_down : (p : Port) (m : Said) → p.slot ≡ 0 → state_at s p ≡ port.Open → Becomes known now s (Offers p m) (writes (Entered p way.Down)) (Holds p way.Down (Some m) ∷ [])
  refused : (p : Port) (m : Said) → (state_at s p ≡ port.Open → ⊥) → Becomes known now s (Offers p m) (writes (Dropped p)) []
  -- The node is called, and what it asks for stands above the rest of its message. An entry from below is given the
  -- rest as long as its port is open; then that is dropped.
  takes : (x slot : ℕ) (m : Said) (done : Bool) (fx : Fx N L) → IsOpen (s.port x slot) → Becomes known now s (Holds (port_at x slot) way.Up (Some m)) (calls x (up slot m now done fx)) (runs_of known x m done fx ++ Holds (port_at x slot) way.Up (rest m done fx) ∷ [])
  takes_down : (x : ℕ) (m : Said) (done : Bool) (fx : Fx N L) → Becomes known now s (Holds (port_at x 0) way.Down (Some m)) (calls x (down m now done fx)) (runs_of known x m done fx ++ Holds (port_at x 0) way.Down None ∷ [])
  drops_rest : (p : Port) (m : Said) → open_count (state_at s p) ≡ 0 → Becomes known now s (Holds p way.Up (Some m)) (writes (Dropped p)) (Holds p way.Up None ∷ [])
  -- an entry ends
  ends : (p : Port) (by : Way) → Becomes known now s (Holds p by None) (writes (Left p)) (settles_by by p.obj.0)
  -- time comes to an object that lives, or to none
  ticks : (x : ℕ) → s.live x ≡ true → Becomes known now s (Ticks x) (writes (Entered (port_at x 4) way.Time)) (Holds (port_at x 4) way.Time (Some silence) ∷ [])
  takes_time : (x : ℕ) (done : Bool) (fx : Fx N L) → Becomes known now s (Holds (port_at x 4) way.Time (Some silence)) (calls x (time now done fx)) (runs_of known x silence done fx ++ Holds (port_at x 4) way.Time None ∷ [])
  ticks_none : (x : ℕ) → s.live x ≡ false → Becomes known now s (Ticks x) (turns (is_dead x)) []
  -- A make is run where its port is open and without a link and there is a place. Without a place all ports of the
  -- maker are closed; at any other port it is dropped.
  makes : (p : Port) (n : N) (x : ObjId) → state_at s p ≡ port.Open → (IsGraphFull s → ⊥) → x.0 ≡ s.made + 1 → Becomes known now s (Makes p n) (writes (Made x (known.kind n))) (MustBegin x.0 n ∷ MustPlug p (port_at x.0 0) ∷ [])
  makes_none : (p : Port) (n : N) → (state_at s p ≡ port.Open → ⊥) → Becomes known now s (Makes p n) (writes (Dropped p)) []
  finds_none : (p : Port) (n : N) → state_at s p ≡ port.Open → IsGraphFull s → Becomes known now s (Makes p n) (turns (is_full p)) (all_closes p.obj.0 no_place)
  has_begun : (x : ℕ) (n : N) → Becomes known now s (MustBegin x n) (begins x n) []
  plugs : (p q : Port) → state_at s p ≡ port.Open → state_at s q ≡ port.Open → Becomes known now s (MustPlug p q) (writes (Plugged p q)) []
  -- what is asked for from outside
  made_outside : (x : ObjId) (n : N) → (IsGraphFull s → ⊥) → x.0 ≡ s.made + 1 → Becomes known now s (MustMake x n) (writes (Made x (known.kind n))) (MustBegin x.0 n ∷ [])
  held : (x : ObjId) → s.live x.0 ≡ true → Becomes known now s (Wants (Held x)) (writes (Held x)) []
  let_go : (x : ObjId) → s.live x.0 ≡ true → Becomes known now s (Wants (LetGo x)) (writes (LetGo x)) (Settles x.0 ∷ [])
  -- the end of a graph comes to the next object above the one that it came to last, until none is left
  next : (after x : ℕ) (c : Cause) → after < x → s.live x ≡ true → ((y : ℕ) → after < y → y < x → s.live y ≡ false) → Becomes known now s (Ends after c) (turns (comes_to x)) (all_closes x c ++ Ends x c ∷ [])
  none_left : (after : ℕ) (c : Cause) → ((y : ℕ) → after < y → s.live y ≡ false) → Becomes known now s (Ends after c) (turns is_reached) []
  lets : (x : ObjId) → Becomes known now s LetsAllGo (turns (lets_go x)) (Wants (LetGo x) ∷ LetsAllGo ∷ [])
  lets_none : Becomes known now s LetsAllGo (turns none_held) []

-- after a deed
abbrev pub after_deed : {N L : Type 0} → Deed N L → Scene → Scene
after_deed (writes e) s = after_noted e s
after_deed (begins x n) s = s
after_deed (calls x i) s = s
after_deed (turns u) s = s

-- all that stands on the stack is used up, the top first
abbrev pub UsesStack : {N L : Type 0} → Nature N L → ℕ → Scene → List (Stage N L) → List (Deed N L) → Scene → Type 0
UsesStack known now s [] [] t = s ≡ t
UsesStack known now s [] (d ∷ ds) t = ⊥
UsesStack known now s (g ∷ gs) [] t = ⊥
UsesStack {N} {L} known now s (g ∷ gs) (d ∷ ds) t = (more : List (Stage N L)) × Becomes known now s g d more × UsesStack known now (after_deed d s) (more ++ gs) ds t
