-- No object that lives was made after the last of an open that was just made.
use Rattle.std.proofs.Common.{◌≡◌, ◌⊎◌, inl, inr, ℕ, ◌+◌, ◌<◌, ◌≤◌, true, false, List, [], ◌∷◌, ◌++◌, map, Option, Some, None, IfNone, IfSome, refl, sym, ◌∙◌, ap, subst, arith}
use Rattle.std.proofs.lemmas.Bool.{false≢true}
use Rattle.nb_ledger.specs.declared.event.GraphEvent.{GraphEvent}
use Rattle.nb_ledger.specs.declared.event.GraphEvent.TheVariants.{Made, Held, Plugged}
use Rattle.nb_ledger.specs.declared.port.ObjId.{ObjId}
use Rattle.nb_ledger.specs.GraphRun.{GraphRunOf, GraphState}
use Rattle.nb_ledger.specs.Flat.{Heard, Notice, events_part, flat}
use Rattle.nb_ledger.specs.Ledger.{IsLeastAbove, object_lives, run_state}
use Rattle.nb_graph.specs.Whole.{Objects, port_at}
use Rattle.nb_nodes.specs.declared.obj.Obj.{Obj}
use Rattle.nb_opens.specs.Notices.{serial, tells}
use Rattle.nb_traced.specs.Outputs.{IsNewest}
use Rattle.nb_chains.specs.declared.chain.Chain.{Chain}
use Rattle.nb_chains.specs.declared.kind.ChainKind.{ChainKind}
use Rattle.nb_chains.specs.declared.kind.ChainKind.TheVariants.{File, Name, Lease, Echo, Drive}
use Rattle.nb_chains.specs.Chains.{IsReadyChain, completes_notices, last_below, last_serial}
use Rattle.nb_chains.specs.Giving.{CallGives, MakingGives}
use Rattle.nb_chains.specs.Kinds.{count_below}
use Rattle.nb_webchains.specs.declared.web_chain.WebChain.{WebChain}
use Rattle.nb_open.specs.Begins.{IsLatest}
use Rattle.nb_drivechains.specs.declared.drive_chain.DriveChain.{DriveChain}
use Rattle.nb_open.specs.Making.{DriveMade, WebMade, making_drive_notices, making_web_notices}
use Rattle.nb_open.proofs.FlatEvents.{same_flat}

-- the last serial that lives is at most this, where none lives above it
pub newest_by : (g : Objects Obj) (x : ℕ) (r : Option ObjId) → g.book.made ≡ x → IfNone r ((y : ℕ) → x < y → object_lives g.book y ≡ false) → IfSome r (IsLeastAbove g.book x) → IsNewest (run_state g.book []) x
newest_by g x None made dead above y lives = elim (split y) [ inl h ↦ h | inr h ↦ absurd (false≢true (sym (dead y h) ∙ lives)) ]
  where
    split : (y : ℕ) → (y ≤ x) ⊎ (x < y)
    split y = grind arith
newest_by g x (Some i) made dead above y lives = absurd (omega (arith, above.0, above.1, made))

pub told_part : (es : List GraphEvent) → events_part (map tells es) ≡ map flat es
told_part [] = refl
told_part (e ∷ es) = ap (λ r. flat e ∷ r) (told_part es)

-- the events of a call are known by its notices
pub run_is : (may : GraphEvent → Type 0) (old new : Objects Obj) (m n : Heard) (ns : List Notice) (es : List GraphEvent) → ns ≡ map tells es → (gives : CallGives may old new m n ns) → GraphRunOf (run_state old.book []) es (run_state new.book [])
run_is may old new m n ns es same gives =
    subst (λ z. GraphRunOf (run_state old.book []) z (run_state new.book [])) (same_flat gives.events es (sym gives.are ∙ (ap events_part same ∙ told_part es))) gives.run

-- the events by which an object is made below another
abbrev pub plugged_events : ℕ → ℕ → ℕ → List GraphEvent
plugged_events z y kind = Made (serial y) kind ∷ Held (serial y) ∷ Plugged (port_at z 1) (port_at y 0) ∷ []

-- after which it was made last
last_plugged : (z y kind : ℕ) (s t : GraphState) → GraphRunOf s (plugged_events z y kind) t → t.made ≡ y
last_plugged z y kind s t (a, made, (b, held, (d, plugged, is))) =
    let count : GraphState → ℕ = λ (x : GraphState). x.made in
    ap count (sym is) ∙ (ap count plugged.5 ∙ (ap count held.2 ∙ ap count made.2))

pub made_last : (es : List GraphEvent) (z y kind : ℕ) (s t : GraphState) → GraphRunOf s (es ++ plugged_events z y kind) t → t.made ≡ y
made_last [] z y kind s t run = last_plugged z y kind s t run
made_last (e ∷ es) z y kind s t (a, step, run) = made_last es z y kind a t run

-- the events by which a Tftp is made below a Fetch
abbrev pub lower_events : ℕ → ℕ → List GraphEvent
lower_events f t = plugged_events f t 4

module _ (c : Chain) (old new : Objects Obj) (m n : Heard) where
  sole_newest : (w : Chain) → c.below ≡ None → c.top ≡ w.top → MakingGives c old new m n [] → IsLatest (Some w) old → IsNewest (run_state new.book []) (last_serial c)
  sole_newest w below top gives latest y lives =
      let run = run_is _ old new m n [] [] refl gives in
      let was : object_lives old.book y ≡ true = ap (λ (s : GraphState). s.live y) run ∙ lives in
      let last : last_serial c ≡ w.top.0 = ap (last_below c.top.0) below ∙ ap (λ (x : ObjId). x.0) top in
      subst (λ z. y ≤ z) (sym last) (latest y was)

  pub newest_completed : (kind : ChainKind) (w : Chain) (r : Option ObjId) → c.top ≡ w.top → IsReadyChain kind c new → MakingGives c old new m n (completes_notices kind c) → new.book.made ≡ old.book.made + count_below kind →
      IfNone r ((y : ℕ) → last_serial c < y → object_lives new.book y ≡ false) → IfSome r (IsLeastAbove new.book (last_serial c)) → IsLatest (Some w) old → IsNewest (run_state new.book []) (last_serial c)
  newest_completed File w r top ready gives made dead above latest =
      let run = run_is _ old new m n (completes_notices File c) (lower_events c.top.0 (last_serial c)) refl gives in
      newest_by new (last_serial c) r (made ∙ sym run.1.1) dead above
  newest_completed Name w r top ready gives made dead above latest = sole_newest w ready.0 top gives latest
  newest_completed Lease w r top ready gives made dead above latest = sole_newest w ready.0 top gives latest
  newest_completed Echo w r top ready gives made dead above latest = sole_newest w ready.0 top gives latest
  newest_completed Drive w r top ready gives made dead above latest = sole_newest w ready.0 top gives latest

-- OF AN OPEN BY HTTP

-- the events by which the two below its Fetch are made, and all three
abbrev pub web_events : WebChain → List GraphEvent
web_events c = plugged_events c.fetch.0 c.web.0 2 ++ plugged_events c.web.0 c.conn.0 3

abbrev pub making_web_events : Option Chain → WebChain → List GraphEvent
making_web_events None c = (Made (serial c.fetch.0) 1 ∷ Held (serial c.fetch.0) ∷ []) ++ web_events c
making_web_events (Some w) c = web_events c

pub making_web_are : (w : Option Chain) (c : WebChain) → making_web_notices w c ≡ map tells (making_web_events w c)
making_web_are None c = refl
making_web_are (Some w) c = refl

module _ (w : Option Chain) (c : WebChain) (old new : Objects Obj) (m n : Heard) (made : WebMade w c old new m n) where
  pub web_run : GraphRunOf (run_state old.book []) (making_web_events w c) (run_state new.book [])
  web_run = run_is _ old new m n (making_web_notices w c) (making_web_events w c) (making_web_are w c) made.gives

  pub newest_web : (r : Option ObjId) → IfNone r ((y : ℕ) → c.conn.0 < y → object_lives new.book y ≡ false) → IfSome r (IsLeastAbove new.book c.conn.0) → IsNewest (run_state new.book []) c.conn.0
  newest_web r dead above = newest_by new c.conn.0 r (by w web_run) dead above
    where
      by : (w : Option Chain) → GraphRunOf (run_state old.book []) (making_web_events w c) (run_state new.book []) → new.book.made ≡ c.conn.0
      by None run = made_last ((Made (serial c.fetch.0) 1 ∷ Held (serial c.fetch.0) ∷ []) ++ plugged_events c.fetch.0 c.web.0 2) c.web.0 c.conn.0 3 (run_state old.book []) (run_state new.book []) run
      by (Some v) run = made_last (plugged_events c.fetch.0 c.web.0 2) c.web.0 c.conn.0 3 (run_state old.book []) (run_state new.book []) run

-- OF A DRIVE

-- the events by which the two below its unit are made, and all three
abbrev pub drive_events : DriveChain → List GraphEvent
drive_events c = plugged_events c.unit.0 c.session.0 8 ++ plugged_events c.session.0 c.conn.0 3

abbrev pub making_drive_events : Option Chain → DriveChain → List GraphEvent
making_drive_events None c = (Made (serial c.unit.0) 9 ∷ Held (serial c.unit.0) ∷ []) ++ drive_events c
making_drive_events (Some w) c = drive_events c

pub making_drive_are : (w : Option Chain) (c : DriveChain) → making_drive_notices w c ≡ map tells (making_drive_events w c)
making_drive_are None c = refl
making_drive_are (Some w) c = refl

module _ (w : Option Chain) (c : DriveChain) (old new : Objects Obj) (m n : Heard) (made : DriveMade w c old new m n) where
  pub drive_run : GraphRunOf (run_state old.book []) (making_drive_events w c) (run_state new.book [])
  drive_run = run_is _ old new m n (making_drive_notices w c) (making_drive_events w c) (making_drive_are w c) made.gives

  pub newest_drive : (r : Option ObjId) → IfNone r ((y : ℕ) → c.conn.0 < y → object_lives new.book y ≡ false) → IfSome r (IsLeastAbove new.book c.conn.0) → IsNewest (run_state new.book []) c.conn.0
  newest_drive r dead above = newest_by new c.conn.0 r (by w drive_run) dead above
    where
      by : (w : Option Chain) → GraphRunOf (run_state old.book []) (making_drive_events w c) (run_state new.book []) → new.book.made ≡ c.conn.0
      by None run = made_last ((Made (serial c.unit.0) 9 ∷ Held (serial c.unit.0) ∷ []) ++ plugged_events c.unit.0 c.session.0 8) c.session.0 c.conn.0 3 (run_state old.book []) (run_state new.book []) run
      by (Some v) run = made_last (plugged_events c.unit.0 c.session.0 8) c.session.0 c.conn.0 3 (run_state old.book []) (run_state new.book []) run
