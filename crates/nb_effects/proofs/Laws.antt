-- For callers: what each thing that is asked for becomes, by the state of its port.
use Rattle.std.proofs.Common.{inl, inr, ◌≡◌, ℕ, ◌≤◌, true, List, [], ◌∷◌, ◌++◌, Some, None, min, max, refl, ap, sym, ◌∙◌, subst, append_assoc, arith}
use Rattle.nb_terms.specs.declared.cause.Cause.{Cause}
use Rattle.nb_ledger.specs.declared.port.Port.{Port}
use Rattle.nb_ledger.specs.declared.port.ObjId.{ObjId}
use Rattle.nb_ledger.specs.declared.port.PortState.{PortState}
use Rattle.nb_ledger.specs.declared.port.PortState.TheVariants as port
use Rattle.std.proofs.lemmas.Bool.{false≢true}
use Rattle.nb_ledger.specs.declared.event.Way.TheVariants as way
use Rattle.nb_ledger.specs.declared.event.GraphEvent.TheVariants.{Entered, Left, Dropped, Closed, Unplugged}
use Rattle.nb_ledger.specs.GraphRun.{IsOpen}
use Rattle.nb_ledger.specs.Ledger.{open_count}
use Rattle.nb_effects.specs.declared.effects.Fx.{Fx}
use Rattle.nb_effects.specs.declared.effects.Emit.{Emit}
use Rattle.nb_effects.specs.declared.effects.Make.{Make}
use Rattle.nb_effects.specs.Whole.{port_at}
use Rattle.nb_effects.specs.Trace.{Nature, Said, up, down, closed, time, regain, silence}
use Rattle.nb_effects.specs.Deeds.{Deed, writes, calls, turns, Stage, Shut, MustHear, Holds, Makes, Closes, MustShut, Sends, Gives, Offers, Ticks, Returns, MustUnplug, Settles, is_shut, is_full, arrives, goes_out, all_closes, no_place, rest, runs_of, settles_by, said_of}
use Rattle.nb_effects.specs.Scene.{Scene, IsGraphFull, state_at, after_noted}
use Rattle.nb_effects.specs.Follows.{UsesStack, after_deed, closes_alone, closes_link, closes_none, peer_closes, peer_enters, peer_hears, unplugs, frees, keeps, passes, leaves, drops, returns, enters_up, enters_down, offered_up, offered_down, refused, takes, takes_down, drops_rest, ends, ticks, takes_time, ticks_none, makes, makes_none, finds_none, has_begun, plugs}
use Rattle.nb_effects.specs.Went.{GraphCall, Each}
use Rattle.nb_effects.specs.Laws.{FirstThen, InTurn, ClosesBoth, EntersThen, CallsThen, IsOnlyUp, IsOnlyDown, IsOnlyClose, IsOnlyMake, MakesOne, Settled}

-- what is open isn't closed
shut_closed : (v : PortState) → IsOpen v → open_count v ≡ 0 → ⊥
shut_closed port.Open a b = absurd (omega (arith, b))
shut_closed (port.Linked q) a b = absurd (omega (arith, b))
shut_closed (port.Leaving q) a b = absurd a
shut_closed port.Closed a b = absurd a

-- what happened in one call
pub only_call : {N L : Type 0} (known : Nature N L) (s t : Scene) (c : GraphCall N L) (dss : List (List (Deed N L))) → Each known s (c ∷ []) dss t → (ds : List (Deed N L)) × (dss ≡ ds ∷ []) × UsesStack known c.now s c.asks ds t
only_call known s t c [] h = absurd h
only_call known s t c (ds ∷ []) h = (ds, refl, subst (λ z. UsesStack known c.now s c.asks ds z) h.2 h.1)
only_call known s t c (ds ∷ (es ∷ dss)) h = absurd h.2

module _ {N L : Type 0} (known : Nature N L) (now : ℕ) where
  -- nothing is asked for: nothing happens
  pub nothing : (s t : Scene) (ds : List (Deed N L)) → UsesStack known now s [] ds t → (ds ≡ []) × (s ≡ t)
  nothing s t [] h = (refl, h)
  nothing s t (d ∷ ds) h = absurd h

  -- what is asked for first is used up before what is asked for next
  pub split : (s t : Scene) (tops others : List (Stage N L)) (ds : List (Deed N L)) → UsesStack known now s (tops ++ others) ds t → InTurn known now s tops others ds t
  split s t [] others ds h = ([], ds, s, refl, refl, h)
  split s t (g ∷ gs) others [] h = absurd h
  split s t (g ∷ gs) others (d ∷ ds) (more, b, h) =
      let r = split (after_deed d s) t (more ++ gs) others ds (subst (λ z. UsesStack known now (after_deed d s) z ds t) (sym (append_assoc more gs others)) h) in
      (d ∷ r.0, r.1, r.2, ap (λ z. d ∷ z) r.3, (more, b, r.4), r.5)

  -- a port without a link is closed
  pub close_open : (s t : Scene) (p : Port) (c : Cause) (gs : List (Stage N L)) (ds : List (Deed N L)) → state_at s p ≡ port.Open → UsesStack known now s (Closes p c ∷ gs) ds t → FirstThen known now (after_noted (Closed p c) s) (writes (Closed p c) ∷ []) gs ds t
  close_open s t p c gs [] o h = absurd h
  close_open s t p c gs (_ ∷ ds) o (_, closes_alone _ _ e, h) = (ds, refl, h)
  close_open s t p c gs (_ ∷ ds) o (_, closes_link _ q _ e, h) = absurd (let z = sym o ∙ e in cc)
  close_open s t p c gs (_ ∷ ds) o (_, closes_none _ _ e, h) = absurd (let z = sym (ap open_count o) ∙ e in cc)

  -- one that is closed already
  pub close_shut : (s t : Scene) (p : Port) (c : Cause) (gs : List (Stage N L)) (ds : List (Deed N L)) → open_count (state_at s p) ≡ 0 → UsesStack known now s (Closes p c ∷ gs) ds t → FirstThen known now s (turns (is_shut p) ∷ []) gs ds t
  close_shut s t p c gs [] o h = absurd h
  close_shut s t p c gs (_ ∷ ds) o (_, closes_alone _ _ e, h) = absurd (let z = sym o ∙ ap open_count e in cc)
  close_shut s t p c gs (_ ∷ ds) o (_, closes_link _ q _ e, h) = absurd (let z = sym o ∙ ap open_count e in cc)
  close_shut s t p c gs (_ ∷ ds) o (_, closes_none _ _ e, h) = (ds, refl, h)

  peer_closed : (s t : Scene) (p : Port) (c : Cause) (gs : List (Stage N L)) (ds : List (Deed N L)) → UsesStack known now s (MustShut p c ∷ gs) ds t → FirstThen known now (after_noted (Closed p c) s) (writes (Closed p c) ∷ []) (Shut p c ∷ gs) ds t
  peer_closed s t p c gs [] h = absurd h
  peer_closed s t p c gs (_ ∷ ds) (_, peer_closes _ _, h) = (ds, refl, h)

  peer_entered : (s t : Scene) (p : Port) (c : Cause) (gs : List (Stage N L)) (ds : List (Deed N L)) → UsesStack known now s (Shut p c ∷ gs) ds t → FirstThen known now s (writes (Entered p way.Close) ∷ []) (MustHear p c ∷ gs) ds t
  peer_entered s t p c gs [] h = absurd h
  peer_entered s t p c gs (_ ∷ ds) (_, peer_enters _ _, h) = (ds, refl, h)

  peer_heard : (s t : Scene) (p : Port) (c : Cause) (gs : List (Stage N L)) (ds : List (Deed N L)) → UsesStack known now s (MustHear p c ∷ gs) ds t → (fx : Fx N L) × FirstThen known now s (calls p.obj.0 (closed p.slot c now fx) ∷ []) (runs_of known p.obj.0 silence true fx ++ Holds p way.Close None ∷ gs) ds t
  peer_heard s t p c gs [] h = absurd h
  peer_heard s t _ c gs (_ ∷ ds) (_, peer_hears x slot _ fx, h) = (fx, (ds, refl, subst (λ z. UsesStack known now s z ds t) (append_assoc (runs_of known x silence true fx) (Holds (port_at x slot) way.Close None ∷ []) gs) h))

  -- a linked port is closed: its peer with the same cause, whose node hears of it; then what that asks for
  pub close_link : (s t : Scene) (p q : Port) (c : Cause) (gs : List (Stage N L)) (ds : List (Deed N L)) → state_at s p ≡ port.Linked q → UsesStack known now s (Closes p c ∷ gs) ds t → ClosesBoth known now s p q c gs ds t
  close_link s t p q c gs [] o h = absurd h
  close_link s t p q c gs (_ ∷ ds) o (_, closes_alone _ _ e, h) = absurd (let z = sym o ∙ e in cc)
  close_link s t p q c gs (_ ∷ ds) o (_, closes_none _ _ e, h) = absurd (let z = sym (ap open_count o) ∙ e in cc)
  close_link s t p q c gs (_ ∷ ds) o (_, closes_link _ r _ e, h) =
      let z : port.Linked q ≡ port.Linked r = sym o ∙ e in
      let same : r ≡ q = cc in
      let one = peer_closed _ t q c (MustUnplug p q ∷ gs) ds (subst (λ z. UsesStack known now (after_noted (Closed p c) s) (MustShut z c ∷ MustUnplug p z ∷ gs) ds t) same h) in
      let two = peer_entered _ t q c (MustUnplug p q ∷ gs) one.0 one.2 in
      let three = peer_heard _ t q c (MustUnplug p q ∷ gs) two.0 two.2 in
      (three.0, (three.1.0, ap (λ z. writes (Closed p c) ∷ z) (one.1 ∙ ap (λ z. writes (Closed q c) ∷ z) (two.1 ∙ ap (λ z. writes (Entered q way.Close) ∷ z) three.1.1)), three.1.2))

  -- a message leaves by a port without a link
  pub send_open : (s t : Scene) (p : Port) (m : Said) (gs : List (Stage N L)) (ds : List (Deed N L)) → state_at s p ≡ port.Open → UsesStack known now s (Sends p m ∷ gs) ds t → FirstThen known now s (turns (goes_out p m) ∷ []) gs ds t
  send_open s t p m gs [] o h = absurd h
  send_open s t p m gs (_ ∷ ds) o (_, leaves _ _ e, h) = (ds, refl, h)
  send_open s t p m gs (_ ∷ ds) o (_, passes _ q _ e, h) = absurd (let z = sym o ∙ e in cc)
  send_open s t p m gs (_ ∷ ds) o (_, drops _ _ e, h) = absurd (let z = sym (ap open_count o) ∙ e in cc)

  -- by a closed one
  pub send_shut : (s t : Scene) (p : Port) (m : Said) (gs : List (Stage N L)) (ds : List (Deed N L)) → open_count (state_at s p) ≡ 0 → UsesStack known now s (Sends p m ∷ gs) ds t → FirstThen known now s (writes (Dropped p) ∷ []) gs ds t
  send_shut s t p m gs [] o h = absurd h
  send_shut s t p m gs (_ ∷ ds) o (_, leaves _ _ e, h) = absurd (let z = sym o ∙ ap open_count e in cc)
  send_shut s t p m gs (_ ∷ ds) o (_, passes _ q _ e, h) = absurd (let z = sym o ∙ ap open_count e in cc)
  send_shut s t p m gs (_ ∷ ds) o (_, drops _ _ e, h) = (ds, refl, h)

  taken_up : (s t : Scene) (p : Port) (m : Said) (gs : List (Stage N L)) (ds : List (Deed N L)) → IsOpen (state_at s p) → UsesStack known now s (Holds p way.Up (Some m) ∷ gs) ds t → CallsThen known now s (λ done fx. up p.slot m now done fx) p way.Up m (λ done fx. rest m done fx) gs ds t
  taken_up s t p m gs [] o h = absurd h
  taken_up s t _ m gs (_ ∷ ds) o (_, takes x slot _ done fx e, h) = (done, fx, (ds, refl, subst (λ z. UsesStack known now s z ds t) (append_assoc (runs_of known x m done fx) (Holds (port_at x slot) way.Up (rest m done fx) ∷ []) gs) h))
  taken_up s t p m gs (_ ∷ ds) o (_, drops_rest _ _ e, h) = absurd (shut_closed _ o e)

  -- what is left of a message at a closed port
  pub rest_shut : (s t : Scene) (p : Port) (m : Said) (gs : List (Stage N L)) (ds : List (Deed N L)) → open_count (state_at s p) ≡ 0 → UsesStack known now s (Holds p way.Up (Some m) ∷ gs) ds t → FirstThen known now s (writes (Dropped p) ∷ []) (Holds p way.Up None ∷ gs) ds t
  rest_shut s t p m gs [] o h = absurd h
  rest_shut s t _ m gs (_ ∷ ds) o (_, takes x slot _ done fx e, h) = absurd (shut_closed _ e o)
  rest_shut s t p m gs (_ ∷ ds) o (_, drops_rest _ _ e, h) = (ds, refl, h)

  taken_down : (s t : Scene) (p : Port) (m : Said) (gs : List (Stage N L)) (ds : List (Deed N L)) → UsesStack known now s (Holds p way.Down (Some m) ∷ gs) ds t → (p.slot ≡ 0) × CallsThen known now s (λ done fx. down m now done fx) p way.Down m (λ done fx. None) gs ds t
  taken_down s t p m gs [] h = absurd h
  taken_down s t _ m gs (_ ∷ ds) (_, takes_down x _ done fx, h) = (refl, (done, fx, (ds, refl, subst (λ z. UsesStack known now s z ds t) (append_assoc (runs_of known x m done fx) (Holds (port_at x 0) way.Down None ∷ []) gs) h)))

  -- an entry ends, and its object is freed or stays
  pub entry_ends : (s t : Scene) (p : Port) (by : _) (gs : List (Stage N L)) (ds : List (Deed N L)) → UsesStack known now s (Holds p by None ∷ gs) ds t → FirstThen known now s (writes (Left p) ∷ []) (settles_by by p.obj.0 ++ gs) ds t
  entry_ends s t p by gs [] h = absurd h
  entry_ends s t p by gs (_ ∷ ds) (_, ends _ _, h) = (ds, refl, h)

  pub settled : (s t : Scene) (x : ObjId) (gs : List (Stage N L)) (ds : List (Deed N L)) → UsesStack known now s (Settles x.0 ∷ gs) ds t → Settled known now s x gs ds t
  settled s t x gs [] h = absurd h
  settled s t _ gs (_ ∷ ds) (_, frees x, h) = inl (ds, refl, h)
  settled s t x gs (_ ∷ ds) (_, keeps _, h) = inr (ds, refl, h)

  pub unplugged_then : (s t : Scene) (p q : Port) (gs : List (Stage N L)) (ds : List (Deed N L)) → UsesStack known now s (MustUnplug p q ∷ gs) ds t → FirstThen known now (after_noted (Unplugged p q) s) (writes (Unplugged p q) ∷ []) (Settles (min p.obj.0 q.obj.0) ∷ Settles (max p.obj.0 q.obj.0) ∷ gs) ds t
  unplugged_then s t p q gs [] h = absurd h
  unplugged_then s t p q gs (_ ∷ ds) (_, unplugs _ _, h) = (ds, refl, h)

  -- a load comes back, before anything else
  pub returned : (s t : Scene) (x : ℕ) (l : L) (gs : List (Stage N L)) (ds : List (Deed N L)) → UsesStack known now s (Returns x l ∷ gs) ds t → FirstThen known now s (calls x (regain l) ∷ []) gs ds t
  returned s t x l gs [] h = absurd h
  returned s t x l gs (_ ∷ ds) (_, returns _ _, h) = (ds, refl, h)

  given_up : (s t : Scene) (p : Port) (m : Said) (gs : List (Stage N L)) (ds : List (Deed N L)) → 1 ≤ p.slot → UsesStack known now s (Gives p m ∷ gs) ds t → EntersThen known now s [] (λ done fx. up p.slot m now done fx) p way.Up m (λ done fx. rest m done fx) gs ds t
  given_up s t p m gs [] o h = absurd h
  given_up s t p m gs (_ ∷ ds) o (_, enters_up _ _ i j, h) = let k = taken_up s t p m gs ds j h in (k.0, k.1, (k.2.0, ap (λ z. writes (Entered p way.Up) ∷ z) k.2.1, k.2.2))
  given_up s t p m gs (_ ∷ ds) o (_, enters_down _ _ i j, h) = absurd (omega (arith, o, i))

  given_down : (s t : Scene) (p : Port) (m : Said) (gs : List (Stage N L)) (ds : List (Deed N L)) → p.slot ≡ 0 → UsesStack known now s (Gives p m ∷ gs) ds t → EntersThen known now s [] (λ done fx. down m now done fx) p way.Down m (λ done fx. None) gs ds t
  given_down s t p m gs [] o h = absurd h
  given_down s t p m gs (_ ∷ ds) o (_, enters_up _ _ i j, h) = absurd (omega (arith, o, i))
  given_down s t p m gs (_ ∷ ds) o (_, enters_down _ _ i j, h) = let k = (taken_down s t p m gs ds h).1 in (k.0, k.1, (k.2.0, ap (λ z. writes (Entered p way.Down) ∷ z) k.2.1, k.2.2))

  passed : (s t : Scene) (p q : Port) (m : Said) (gs : List (Stage N L)) (ds : List (Deed N L)) → state_at s p ≡ port.Linked q → UsesStack known now s (Sends p m ∷ gs) ds t → FirstThen known now s (turns (arrives p q) ∷ []) (Gives q m ∷ gs) ds t
  passed s t p q m gs [] o h = absurd h
  passed s t p q m gs (_ ∷ ds) o (_, leaves _ _ e, h) = absurd (let z = sym o ∙ e in cc)
  passed s t p q m gs (_ ∷ ds) o (_, drops _ _ e, h) = absurd (let z = sym (ap open_count o) ∙ e in cc)
  passed s t p q m gs (_ ∷ ds) o (_, passes _ r _ e, h) =
      let z : port.Linked q ≡ port.Linked r = sym o ∙ e in
      let same : r ≡ q = cc in
      subst (λ z. FirstThen known now s (turns (arrives p q) ∷ []) (Gives q m ∷ gs) (turns (arrives p z) ∷ ds) t) (sym same) (ds, refl, subst (λ z. UsesStack known now s (Gives z m ∷ gs) ds t) same h)

  -- a message leaves by slot 0 over a link: it enters the other object from below
  pub send_up : (s t : Scene) (p q : Port) (m : Said) (gs : List (Stage N L)) (ds : List (Deed N L)) → state_at s p ≡ port.Linked q → 1 ≤ q.slot → UsesStack known now s (Sends p m ∷ gs) ds t → EntersThen known now s (turns (arrives p q) ∷ []) (λ done fx. up q.slot m now done fx) q way.Up m (λ done fx. rest m done fx) gs ds t
  send_up s t p q m gs ds o i h =
      let a = passed s t p q m gs ds o h in
      let b = given_up s t q m gs a.0 i a.2 in
      (b.0, b.1, (b.2.0, a.1 ∙ ap (λ z. turns (arrives p q) ∷ z) b.2.1, b.2.2))

  -- by one of the slots 1 to 3: from above
  pub send_down : (s t : Scene) (p q : Port) (m : Said) (gs : List (Stage N L)) (ds : List (Deed N L)) → state_at s p ≡ port.Linked q → q.slot ≡ 0 → UsesStack known now s (Sends p m ∷ gs) ds t → EntersThen known now s (turns (arrives p q) ∷ []) (λ done fx. down m now done fx) q way.Down m (λ done fx. None) gs ds t
  send_down s t p q m gs ds o i h =
      let a = passed s t p q m gs ds o h in
      let b = given_down s t q m gs a.0 i a.2 in
      (b.0, b.1, (b.2.0, a.1 ∙ ap (λ z. turns (arrives p q) ∷ z) b.2.1, b.2.2))

  -- a message that is given from outside: it enters by an open port without a link, and is dropped at any other
  pub offer_up : (s t : Scene) (p : Port) (m : Said) (gs : List (Stage N L)) (ds : List (Deed N L)) → 1 ≤ p.slot → state_at s p ≡ port.Open → UsesStack known now s (Offers p m ∷ gs) ds t → EntersThen known now s [] (λ done fx. up p.slot m now done fx) p way.Up m (λ done fx. rest m done fx) gs ds t
  offer_up s t p m gs [] i o h = absurd h
  offer_up s t p m gs (_ ∷ ds) i o (_, offered_up _ _ j e, h) = let k = taken_up s t p m gs ds (subst IsOpen (sym o) tt) h in (k.0, k.1, (k.2.0, ap (λ z. writes (Entered p way.Up) ∷ z) k.2.1, k.2.2))
  offer_up s t p m gs (_ ∷ ds) i o (_, offered_down _ _ j e, h) = absurd (omega (arith, i, j))
  offer_up s t p m gs (_ ∷ ds) i o (_, refused _ _ e, h) = absurd (e o)

  pub offer_down : (s t : Scene) (p : Port) (m : Said) (gs : List (Stage N L)) (ds : List (Deed N L)) → p.slot ≡ 0 → state_at s p ≡ port.Open → UsesStack known now s (Offers p m ∷ gs) ds t → EntersThen known now s [] (λ done fx. down m now done fx) p way.Down m (λ done fx. None) gs ds t
  offer_down s t p m gs [] i o h = absurd h
  offer_down s t p m gs (_ ∷ ds) i o (_, offered_up _ _ j e, h) = absurd (omega (arith, i, j))
  offer_down s t p m gs (_ ∷ ds) i o (_, offered_down _ _ j e, h) = let k = (taken_down s t p m gs ds h).1 in (k.0, k.1, (k.2.0, ap (λ z. writes (Entered p way.Down) ∷ z) k.2.1, k.2.2))
  offer_down s t p m gs (_ ∷ ds) i o (_, refused _ _ e, h) = absurd (e o)

  pub offer_refused : (s t : Scene) (p : Port) (m : Said) (gs : List (Stage N L)) (ds : List (Deed N L)) → (state_at s p ≡ port.Open → ⊥) → UsesStack known now s (Offers p m ∷ gs) ds t → FirstThen known now s (writes (Dropped p) ∷ []) gs ds t
  offer_refused s t p m gs [] o h = absurd h
  offer_refused s t p m gs (_ ∷ ds) o (_, offered_up _ _ j e, h) = absurd (o e)
  offer_refused s t p m gs (_ ∷ ds) o (_, offered_down _ _ j e, h) = absurd (o e)
  offer_refused s t p m gs (_ ∷ ds) o (_, refused _ _ e, h) = (ds, refl, h)

  -- time comes to a live object
  pub tick_live : (s t : Scene) (x : ℕ) (gs : List (Stage N L)) (ds : List (Deed N L)) → s.live x ≡ true → UsesStack known now s (Ticks x ∷ gs) ds t → EntersThen known now s [] (λ done fx. time now done fx) (port_at x 4) way.Time silence (λ done fx. None) gs ds t
  tick_live s t x gs [] o h = absurd h
  tick_live s t x gs (_ ∷ ds) o (_, ticks_none _ e, h) = absurd (false≢true (sym e ∙ o))
  tick_live s t x gs (_ ∷ []) o (_, ticks _ e, h) = absurd h
  tick_live s t x gs (_ ∷ (_ ∷ ds)) o (_, ticks _ e, (_, takes_time _ done fx, h)) = (done, fx, (ds, refl, subst (λ z. UsesStack known now s z ds t) (append_assoc (runs_of known x silence done fx) (Holds (port_at x 4) way.Time None ∷ []) gs) h))

  -- an object is made and plugged, where its port is open and without a link and there is a place
  pub make_open : (s t : Scene) (p : Port) (n : N) (gs : List (Stage N L)) (ds : List (Deed N L)) → state_at s p ≡ port.Open → (IsGraphFull s → ⊥) → UsesStack known now s (Makes p n ∷ gs) ds t → MakesOne known now s p n gs ds t
  make_open s t p node gs [] o n h = absurd h
  make_open s t p node gs (_ ∷ ds) o n (_, makes_none _ _ e, h) = absurd (e o)
  make_open s t p node gs (_ ∷ ds) o n (_, finds_none _ _ e f, h) = absurd (n f)
  make_open s t p node gs (_ ∷ []) o n (_, makes _ _ x e f i, h) = absurd h
  make_open s t p node gs (_ ∷ (_ ∷ [])) o n (_, makes _ _ x e f i, (_, has_begun _ _, h)) = absurd h
  make_open s t p node gs (_ ∷ (_ ∷ (_ ∷ ds))) o n (_, makes _ _ x e f i, (_, has_begun _ _, (_, plugs _ _ j k, h))) = (x, i, (ds, refl, h))

  -- there is none: all ports of the maker are closed
  pub make_full : (s t : Scene) (p : Port) (n : N) (gs : List (Stage N L)) (ds : List (Deed N L)) → state_at s p ≡ port.Open → IsGraphFull s → UsesStack known now s (Makes p n ∷ gs) ds t → FirstThen known now s (turns (is_full p) ∷ []) (all_closes p.obj.0 no_place ++ gs) ds t
  make_full s t p node gs [] o n h = absurd h
  make_full s t p node gs (_ ∷ ds) o n (_, makes_none _ _ e, h) = absurd (e o)
  make_full s t p node gs (_ ∷ ds) o n (_, finds_none _ _ e f, h) = (ds, refl, h)
  make_full s t p node gs (_ ∷ ds) o n (_, makes _ _ x e f i, h) = absurd (f n)

  -- its port is closed or plugged
  pub make_shut : (s t : Scene) (p : Port) (n : N) (gs : List (Stage N L)) (ds : List (Deed N L)) → (state_at s p ≡ port.Open → ⊥) → UsesStack known now s (Makes p n ∷ gs) ds t → FirstThen known now s (writes (Dropped p) ∷ []) gs ds t
  make_shut s t p node gs [] o h = absurd h
  make_shut s t p node gs (_ ∷ ds) o (_, makes_none _ _ e, h) = (ds, refl, h)
  make_shut s t p node gs (_ ∷ ds) o (_, finds_none _ _ e f, h) = absurd (o e)
  make_shut s t p node gs (_ ∷ ds) o (_, makes _ _ x e f i, h) = absurd (o e)

  -- what an entry asks for where that is one message up, one down, one close or one make
  pub runs_up : (x : ℕ) (m : Said) (fx : Fx N L) (e : Emit L) → IsOnlyUp fx e → runs_of known x m true fx ≡ Sends (port_at x e.slot) (said_of known m e) ∷ []
  runs_up x m fx e o = rw (o.0, o.1.0, o.1.1, o.2.0, o.2.1, o.3, o.4) refl

  pub runs_down : (x : ℕ) (m : Said) (fx : Fx N L) (e : Emit L) → IsOnlyDown fx e → runs_of known x m true fx ≡ Sends (port_at x e.slot) (said_of known m e) ∷ []
  runs_down x m fx e o = rw (o.0, o.1.0, o.1.1, o.2.0, o.2.1, o.3, o.4) refl

  pub runs_close : (x : ℕ) (m : Said) (fx : Fx N L) (slot : ℕ) (c : Cause) → IsOnlyClose fx slot c → runs_of known x m true fx ≡ Closes (port_at x slot) c ∷ []
  runs_close x m fx slot c o = rw (o.0, o.1.0, o.1.1, o.2.0, o.2.1, o.3) refl

  pub runs_make : (x : ℕ) (m : Said) (fx : Fx N L) (mk : Make N) → IsOnlyMake fx mk → runs_of known x m true fx ≡ Makes (port_at x mk.slot) mk.node ∷ []
  runs_make x m fx mk o = rw (o.0, o.1.0, o.1.1, o.2.0, o.2.1, o.3) refl
