-- What the Fetch does in a call, and how closes pass through it.
use Rattle.std.proofs.Common.{◌≡◌, ◌⊎◌, inl, inr, ℕ, ◌≤◌, ◌==◌, ◌&&◌, Bool, true, false, cond, List, [], ◌∷◌, ◌++◌, length, Option, Some, None, refl, sym, ap, ◌∙◌, subst, append_assoc, arith, if◌then◌else◌}
use Rattle.std.specs.List.{find}
use Rattle.std.specs.Option.{option_and_then, option_or, is_none}
use Rattle.std.proofs.lemmas.List.Folds.{find-append}
use Rattle.std.proofs.lemmas.Bool.{false≢true}
use Rattle.nb_terms.specs.declared.cause.Cause.{Cause}
use Rattle.nb_ledger.specs.declared.event.Way.TheVariants as way
use Rattle.nb_effects.specs.declared.effects.Fx.{Fx}
use Rattle.nb_graph.specs.Whole.{port_at}
use Rattle.nb_graph.specs.Trace.{NodeEntry, Said, up, closed, regain, silence, lent}
use Rattle.nb_graph.specs.Deeds.{Deed, Stage, Holds, Closes, Sends, MustUnplug, all_closes, closes_of, no_memory, returns_of, rest, runs_of, told_of}
use Rattle.nb_conns.specs.ConnEffects.{SaysNothing}
use Rattle.nb_conns.specs.Dialogues.{Dialogue}
use Rattle.nb_nodes.specs.declared.load.Load.{Load}
use Rattle.nb_nodes.specs.declared.obj.Obj.{Obj}
use Rattle.nb_nodes.specs.Carriers.{web_carrier}
use Rattle.nb_nodes.specs.Carried.{CarriesNothing, both_closes}
use Rattle.nb_nodes.specs.Objects.{obj_nature}
use Rattle.nb_nodes.specs.Fetches.{AsksMove, AsksOfFetch, AsksOfUp, brings_move, closed_well, ends_fetch, first_end, gathers, moved_by_entry, moved_cause, moved_in, taken_below}
use Rattle.nb_opens.specs.Notices.{first_close, or_else}
use Rattle.nb_opens.proofs.Bodies.{after_close, passes_close, taken_close, takes_all}
use Rattle.nb_webnodes.specs.WebTalks.{WebTalk, Fetched, ends_early, is_open_web, stays_idle}
use Rattle.nb_webtalks.proofs.Scenes.{View}
use Rattle.nb_webtalks.proofs.Walking.{WebCall, Walk, view}
use Rattle.nb_webtalks.proofs.Steps.{close_lower_up, close_upper_down, close_upper_up, close_user, conn_returns, fetch_returns, fetch_rest, fetch_settles, fetch_takes, left_by, send_to_fetch, some_more, unplug_upper_down, unplug_upper_up, weaker, web_returns}

-- memory ran out before anything was closed
abbrev pub RanOut : List (Deed Obj Load) → Type 0
RanOut ds = first_close (told_of ds) ≡ Some no_memory

pub runs_closes : (x : ℕ) (m : Said) (fx : Fx Obj Load) → fx.makes ≡ None → fx.downs.first ≡ None → fx.downs.second ≡ None → fx.ups.first ≡ None → fx.ups.second ≡ None → runs_of obj_nature x m true fx ≡ closes_of x fx.closes.items
runs_closes x m fx none one two three four = rw (none, one, two, three, four) refl

-- an entry that sends nothing, and closes these
pub runs_carried : (x : ℕ) (m : Said) (fx : Fx Obj Load) (xs : List (ℕ × Cause)) → CarriesNothing fx → fx.closes.items ≡ xs → runs_of obj_nature x m true fx ≡ closes_of x xs
runs_carried x m fx xs c is = runs_closes x m fx c.no_make c.no_down c.no_downs c.no_up c.no_ups ∙ ap (closes_of x) is

pub runs_silent : (x : ℕ) (m : Said) (fx : Fx Obj Load) (xs : List (ℕ × Cause)) → SaysNothing fx → fx.closes.items ≡ xs → runs_of obj_nature x m true fx ≡ closes_of x xs
runs_silent x m fx xs c is = runs_closes x m fx c.no_make c.no_down c.no_downs c.no_up c.no_ups ∙ ap (closes_of x) is

module _ {c : WebCall} {n : ℕ} {gs : List (Stage Obj Load)} {a : List (NodeEntry Obj Load)} {r : WebTalk} {d : Dialogue} {ms : List Said} {z : Option Cause} {ds : List (Deed Obj Load)} where
  -- what is asked for, in another form
  pub as_stages : {v : View} (hs : List (Stage Obj Load)) → gs ≡ hs → Walk c n v gs a r d ms z ds → Walk c n v hs a r d ms z ds
  as_stages {v = v} hs e k = subst (λ x. Walk c n v x a r d ms z ds) e k

pub fetch_all_returns : {c : WebCall} {n : ℕ} {v : View} {gs : List (Stage Obj Load)} {r : WebTalk} {d : Dialogue} {ms : List Said} {z : Option Cause} {ds : List (Deed Obj Load)} (ls : List Load) (a : List (NodeEntry Obj Load))
    → Walk c n v (returns_of c.fetch ls ++ gs) a r d ms z ds → (b : List (NodeEntry Obj Load)) × Walk c n v gs b r d ms z ds
fetch_all_returns [] a k = (a, k)
fetch_all_returns (l ∷ ls) a k = fetch_all_returns ls (a ++ regain l ∷ []) (fetch_returns k)

pub web_all_returns : {c : WebCall} {n : ℕ} {v : View} {gs : List (Stage Obj Load)} {a : List (NodeEntry Obj Load)} {r : WebTalk} {d : Dialogue} {ms : List Said} {z : Option Cause} {ds : List (Deed Obj Load)} (ls : List Load)
    → Walk c n v (returns_of c.web ls ++ gs) a r d ms z ds → Walk c n v gs a r d ms z ds
web_all_returns [] k = k
web_all_returns (l ∷ ls) k = web_all_returns ls (web_returns k)

pub conn_some_returns : {c : WebCall} {n : ℕ} {v : View} {gs : List (Stage Obj Load)} {a : List (NodeEntry Obj Load)} {r : WebTalk} {ms : List Said} {z : Option Cause} {ds : List (Deed Obj Load)} (ls : List Load) (d : Dialogue)
    → Walk c n v (returns_of c.conn ls ++ gs) a r d ms z ds → (q : Dialogue) × Walk c n v gs a r q ms z ds
conn_some_returns [] d k = (d, k)
conn_some_returns (l ∷ ls) d k = let y = conn_returns k in conn_some_returns ls y.0 y.2

module _ {c : WebCall} {n : ℕ} (gs : List (Stage Obj Load)) {a : List (NodeEntry Obj Load)} {r : WebTalk} {d : Dialogue} {ms : List Said} {ds : List (Deed Obj Load)} (m : Said) (fx : Fx Obj Load) where
  -- MEMORY RUNS OUT

  pub fetch_fails : {p l e : Bool} → Walk c n (view true p l e) (runs_of obj_nature c.fetch m false fx ++ gs) a r d ms None ds → RanOut ds
  fetch_fails k =
      let y = fetch_all_returns (lent fx) a (as_stages (returns_of c.fetch (lent fx) ++ (all_closes c.fetch no_memory ++ gs)) (append_assoc (returns_of c.fetch (lent fx)) (all_closes c.fetch no_memory) gs) k) in
      (close_user y.1).told.closes

  pub web_fails : {u l e : Bool} → Walk c n (view u true l e) (runs_of obj_nature c.web m false fx ++ gs) a r d ms None ds → RanOut ds
  web_fails k =
      let y = web_all_returns (lent fx) (as_stages (returns_of c.web (lent fx) ++ (all_closes c.web no_memory ++ gs)) (append_assoc (returns_of c.web (lent fx)) (all_closes c.web no_memory) gs) k) in
      let w = close_upper_up y in
      w.2.told.closes

  pub conn_fails : {u p e : Bool} → Walk c n (view u p true e) (runs_of obj_nature c.conn m false fx ++ gs) a r d ms None ds → RanOut ds
  conn_fails k =
      let y = conn_some_returns (lent fx) d (as_stages (returns_of c.conn (lent fx) ++ (all_closes c.conn no_memory ++ gs)) (append_assoc (returns_of c.conn (lent fx)) (all_closes c.conn no_memory) gs) k) in
      let s = some_more y.1 in
      let w = close_lower_up s.0 s.1 y.1 in
      w.3.told.closes

-- a fetch that is decided does nothing where its port above is closed
idle_web : (r q : WebTalk) (x : Cause) (now : ℕ) (fx : Fx Obj Load) → is_open_web r ≡ false → Fetched {L = Load} web_carrier r (closed 0 x now fx) q → (q ≡ r) × SaysNothing fx × (fx.closes.items ≡ [])
idle_web r q x now fx off (ends_early _ _ cut hands) = absurd (false≢true (sym (ap (λ z. z && true) off) ∙ cut))
idle_web r _ x now fx off (stays_idle _ _ quiet asks) = (refl, asks.0, asks.1)

-- what the Fetch has done ends by this entry
end_of : (t : List (NodeEntry Obj Load)) (e : NodeEntry Obj Load) → gathers t ≡ true → ends_fetch e ≡ true → first_end (t ++ e ∷ []) ≡ Some e
end_of t e h is = find-append ends_fetch t (e ∷ []) ∙ ap (λ z. option_or z (find ends_fetch (e ∷ []))) (none_of (find ends_fetch t) h) ∙ ap (λ z. cond z (Some e) None) is
  where
    none_of : (o : Option (NodeEntry Obj Load)) → is_none o ≡ true → o ≡ None
    none_of None h = refl
    none_of (Some e) h = absurd (let z = h in cc)

pub moved_by_move : (t : List (NodeEntry Obj Load)) (m : Said) (now : ℕ) (fx : Fx Obj Load) → gathers t ≡ true → brings_move 1 m ≡ true → fx.closes.items ≡ both_closes moved_cause → moved_in (t ++ up 1 m now true fx ∷ []) ≡ Some m.bytes
moved_by_move t m now fx going is closes =
    ap (λ z. option_and_then moved_by_entry z) (end_of t (up 1 m now true fx) going (rw (closes) refl)) ∙ ap (λ b. if b then Some m.bytes else None) is

pub unmoved_by_close : (t : List (NodeEntry Obj Load)) (x : Cause) (now : ℕ) (fx : Fx Obj Load) → gathers t ≡ true → moved_in (t ++ closed 1 x now fx ∷ []) ≡ None
unmoved_by_close t x now fx going = ap (λ z. option_and_then moved_by_entry z) (end_of t (closed 1 x now fx) going refl)

close_again : (z : Option Cause) (x : Cause) → or_else (or_else (or_else z (Some x)) (Some x)) (Some x) ≡ or_else z (Some x)
close_again None x = refl
close_again (Some y) x = refl

-- it takes bytes that fit, and gathers on
pub record Gathers (c : WebCall) (n : ℕ) (l e : Bool) (gs : List (Stage Obj Load)) (r : WebTalk) (d : Dialogue) (ms : List Said) (ds : List (Deed Obj Load)) (body : List ℕ) : Type 0 where
  pub above : List (NodeEntry Obj Load)
  pub going : gathers above ≡ true
  pub taken : taken_below above ≡ body
  pub walk : Walk c n (view true true l e) gs above r d ms None ds

-- it is told a move, and ends
pub record IsMoved (c : WebCall) (n : ℕ) (e : Bool) (gs : List (Stage Obj Load)) (r : WebTalk) (d : Dialogue) (ms : List Said) (ds : List (Deed Obj Load)) (text : List ℕ) : Type 0 where
  pub above : List (NodeEntry Obj Load)
  pub moved : moved_in above ≡ Some text
  pub walk : Walk c n (view false false true e) gs above r d ms (Some moved_cause) ds

-- its port below is closed, and it ends
pub record IsClosed (c : WebCall) (n : ℕ) (l e : Bool) (gs : List (Stage Obj Load)) (r : WebTalk) (d : Dialogue) (ms : List Said) (ds : List (Deed Obj Load)) (body : List ℕ) (x : Cause) (z : Option Cause) : Type 0 where
  pub above : List (NodeEntry Obj Load)
  pub well : closed_well above ≡ (x.code == 0)
  pub taken : taken_below above ≡ body
  pub unmoved : moved_in above ≡ None
  pub walk : Walk c n (view false false l e) gs above r d ms z ds

module _ {c : WebCall} {n : ℕ} {gs : List (Stage Obj Load)} {a : List (NodeEntry Obj Load)} {r : WebTalk} {d : Dialogue} {ms : List Said} {ds : List (Deed Obj Load)} (going : gathers a ≡ true) where
  pub fetch_gathers : {l e : Bool} {m : Said} → length (taken_below a ++ m.bytes) ≤ 268435456 → brings_move 1 m ≡ false → Walk c n (view true true l e) (Sends (port_at c.web 0) m ∷ gs) a r d ms None ds
      → RanOut ds ⊎ Gathers c n l e gs r d ms ds (taken_below a ++ m.bytes)
  fetch_gathers {l = l} {e = e} {m = m} fits other k = let y = fetch_takes (send_to_fetch k) in by y.0 y.1 y.2 y.3
    where
      by : (done : Bool) (fx : Fx Obj Load) → AsksOfFetch a (up 1 m c.now done fx) → Walk c n (view true true l e) (runs_of obj_nature c.fetch m done fx ++ Holds (port_at c.fetch 1) way.Up (rest m done fx) ∷ gs) (a ++ up 1 m c.now done fx ∷ []) r d ms None ds
          → RanOut ds ⊎ Gathers c n l e gs r d ms ds (taken_below a ++ m.bytes)
      by false fx asks w = inl (fetch_fails (Holds (port_at c.fetch 1) way.Up (rest m false fx) ∷ gs) m fx w)
      by true fx asks w =
          let t = takes_all a (taken_below a) m c.now fx going refl asks fits other in
          let hs : List (Stage Obj Load) = Holds (port_at c.fetch 1) way.Up (rest m true fx) ∷ gs in
          inr (record {
            above = a ++ up 1 m c.now true fx ∷ [];
            going = t.gathering;
            taken = t.taken;
            walk = fetch_settles (left_by (as_stages (Holds (port_at c.fetch 1) way.Up None ∷ gs) (ap (λ (x : List (Stage Obj Load)). x ++ hs) (runs_carried c.fetch m fx [] t.sends t.closes) ∙ ap (λ (o : Option Said). Holds (port_at c.fetch 1) way.Up o ∷ gs) t.rest) w));
          })

  -- the fetch that it is linked to is decided
  pub fetch_moves : {e : Bool} {m : Said} → is_open_web r ≡ false → brings_move 1 m ≡ true → Walk c n (view true true true e) (Sends (port_at c.web 0) m ∷ gs) a r d ms None ds → RanOut ds ⊎ IsMoved c n e gs r d ms ds m.bytes
  fetch_moves {e = e} {m = m} decided is k = let y = fetch_takes (send_to_fetch k) in by y.0 y.1 y.2 y.3
    where
      idle : (f : ℕ) (q : WebTalk) (fx : Fx Obj Load) (hs : List (Stage Obj Load)) (b : List (NodeEntry Obj Load)) → Fetched web_carrier r (closed 0 moved_cause c.now fx) q
          → Walk c f (view false false true e) (runs_of obj_nature c.web silence true fx ++ Holds (port_at c.web 0) way.Close None ∷ MustUnplug (port_at c.fetch 1) (port_at c.web 0) ∷ hs) b q d ms (Some moved_cause) ds
          → Walk c f (view false false true e) hs b r d ms (Some moved_cause) ds
      idle f q fx hs b did w =
          let i = idle_web r q moved_cause c.now fx decided did in
          let gs2 : List (Stage Obj Load) = Holds (port_at c.web 0) way.Close None ∷ MustUnplug (port_at c.fetch 1) (port_at c.web 0) ∷ hs in
          subst (λ x. Walk c f (view false false true e) hs b x d ms (Some moved_cause) ds) i.0
          (unplug_upper_down (left_by (as_stages gs2 (ap (λ (x : List (Stage Obj Load)). x ++ gs2) (runs_silent c.web silence fx [] i.1 i.2)) w)))

      by : (done : Bool) (fx : Fx Obj Load) → AsksOfFetch a (up 1 m c.now done fx) → Walk c n (view true true true e) (runs_of obj_nature c.fetch m done fx ++ Holds (port_at c.fetch 1) way.Up (rest m done fx) ∷ gs) (a ++ up 1 m c.now done fx ∷ []) r d ms None ds
          → RanOut ds ⊎ IsMoved c n e gs r d ms ds m.bytes
      by false fx asks w = inl (fetch_fails (Holds (port_at c.fetch 1) way.Up (rest m false fx) ∷ gs) m fx w)
      by true fx asks w =
          let t : AsksMove true (length m.bytes) fx = subst (λ b. AsksMove b (length m.bytes) fx) going (subst (λ (b : Bool). AsksOfUp b (gathers a) (length (taken_below a)) 1 m fx) is (asks refl)) in
          let hs : List (Stage Obj Load) = Holds (port_at c.fetch 1) way.Up (rest m true fx) ∷ gs in
          let one = close_user (as_stages (Closes (port_at c.fetch 0) moved_cause ∷ Closes (port_at c.fetch 1) moved_cause ∷ hs) (ap (λ (x : List (Stage Obj Load)). x ++ hs) (runs_carried c.fetch m fx (both_closes moved_cause) t.sends t.closes)) w) in
          let s = some_more one in
          let two = close_upper_down s.0 s.1 one in
          inr (record {
            above = a ++ up 1 m c.now true fx ∷ [];
            moved = moved_by_move a m c.now fx going is t.closes;
            walk = fetch_rest (rest m true fx) (weaker (let x = s.1 in omega (arith, x)) (idle s.0 two.1 two.0 hs (a ++ up 1 m c.now true fx ∷ []) two.2 two.3));
          })

  pub fetch_closed : {l e : Bool} {x : Cause} {z : Option Cause} → Walk c n (view true true l e) (Closes (port_at c.web 0) x ∷ gs) a r d ms z ds → IsClosed c n l e gs r d ms ds (taken_below a) x (or_else z (Some x))
  fetch_closed {l = l} {e = e} {x = x} {z = z} k =
      let y = close_upper_up k in
      let p = passes_close a x c.now y.0 going y.1 in
      let hs : List (Stage Obj Load) = Holds (port_at c.fetch 1) way.Close None ∷ MustUnplug (port_at c.web 0) (port_at c.fetch 1) ∷ gs in
      record {
        above = a ++ closed 1 x c.now y.0 ∷ [];
        well = after_close a x c.now y.0 going;
        taken = taken_close a x c.now y.0;
        unmoved = unmoved_by_close a x c.now y.0 going;
        walk = subst (λ w. Walk c n (view false false l e) gs (a ++ closed 1 x c.now y.0 ∷ []) r d ms w ds) (close_again z x) (unplug_upper_up (left_by (close_user (as_stages (Closes (port_at c.fetch 0) x ∷ hs) (ap (λ (w : List (Stage Obj Load)). w ++ hs) (runs_carried c.fetch silence y.0 ((0, x) ∷ []) p.0 p.1)) y.2))));
      }
