-- The order of the notices of each call, for two objects and for one.
use Rattle.std.proofs.Common.{inl, inr, ◌≡◌, ℕ, ◌<◌, List, [], ◌∷◌, ◌++◌, map, Option, Some, None, refl, arith}
use Rattle.std.specs.List.{AllByRecursion}
use Rattle.nb_terms.specs.declared.acts.Acts.{Acts}
use Rattle.nb_terms.specs.declared.acts.SendTo.{SendTo}
use Rattle.nb_terms.specs.declared.cause.Cause.{Cause}
use Rattle.nb_ledger.specs.declared.event.GraphEvent.{GraphEvent}
use Rattle.nb_ledger.specs.declared.event.GraphEvent.TheVariants.{Closed, Dropped, Entered, Freed, Left, LetGo, Unplugged}
use Rattle.nb_ledger.specs.declared.event.Way.{Way}
use Rattle.nb_ledger.specs.declared.event.Way.TheVariants as way
use Rattle.nb_ledger.specs.declared.port.Port.{Port}
use Rattle.nb_ledger.specs.Flat.{Notice}
use Rattle.nb_graph.specs.Trace.{Said}
use Rattle.nb_graph.specs.Whole.{port_at}
use Rattle.nb_nodes.specs.Carried.{advance_said, datagram_said, downs_of, try_tag}
use Rattle.nb_nodes.specs.Fetches.{body_too_large}
use Rattle.nb_nodes.specs.Tags.{tag_number}
use Rattle.nb_opens.specs.AloneNotices.{all_closed, alone_call, alone_closed, alone_end, alone_freed, alone_ignored, alone_shut}
use Rattle.nb_opens.specs.Notices.{begun_notices, call_notices, closed_late, closed_notices, down_notices, end_notices, freed_notices, large_notices, parted_notices, passed_on, sent_from, serial, shut_notices, tells, too_many_notices, up_notices}
use Rattle.nb_chains.specs.Shapes.{EndsInEntry, GoesDownOut, HasShape, IsNoCall, IsTagDown, IsTagUp, SendsNone, StaysAbove}
use Rattle.nb_chains.proofs.GivingLemmas.{each_append}

-- WHAT GOES DOWN

downs_out : (x : ℕ) (ms : List Said) → AllByRecursion (λ (m : Said). IsTagDown m.tag) ms → AllByRecursion (GoesDownOut x) (map (sent_from (port_at x 1)) ms)
downs_out x [] q = tt
downs_out x (m ∷ ms) q = ((refl, q.0), downs_out x ms q.1)

is_try : (tried : Option ℕ) → IsTagDown (tag_number (try_tag tried))
is_try None = inl refl
is_try (Some n) = inr (inl refl)

tries : (rec : ℕ) (tried : Option ℕ) (sends : List SendTo) → AllByRecursion (λ (m : Said). IsTagDown m.tag) (map (datagram_said rec tried) sends)
tries rec tried [] = tt
tries rec tried (s ∷ sends) = (is_try tried, tries rec tried sends)

place : (rec : ℕ) (advance : Option ℕ) → AllByRecursion (λ (m : Said). IsTagDown m.tag) (advance_said rec advance)
place rec None = tt
place rec (Some k) = (inr (inr refl), tt)

pub downs_go : (x rec : ℕ) (acts : Acts) → AllByRecursion (GoesDownOut x) (map (sent_from (port_at x 1)) (downs_of rec acts))
downs_go x rec acts =
    downs_out x (downs_of rec acts) (each_append (λ (m : Said). IsTagDown m.tag) (advance_said rec acts.advance) (map (datagram_said rec acts.tried) acts.sends.items) (place rec acts.advance) (tries rec acts.tried acts.sends.items))

-- WHAT STAYS ABOVE

-- events of which none is an entry of x from outside
stay : (x : ℕ) (es : List GraphEvent) → AllByRecursion (IsNoCall x) es → SendsNone x (map tells es)
stay x [] q = tt
stay x (e ∷ es) q = ((e, refl, q.0), stay x es q.1)

stay_both : (x : ℕ) (ns ms : List Notice) → SendsNone x ns → SendsNone x ms → SendsNone x (ns ++ ms)
stay_both x ns ms p q = each_append (StaysAbove x) ns ms p q

-- what is given to the user
pub ups_stay : (x y : ℕ) (ms : List Said) → AllByRecursion (λ (m : Said). IsTagUp m.tag) ms → SendsNone x (map (sent_from (port_at y 0)) ms)
ups_stay x y [] q = tt
ups_stay x y (m ∷ ms) q = (q.0, ups_stay x y ms q.1)

-- an entry from above comes last
in_entry : (x : ℕ) (outer : List GraphEvent) (downs : List Notice) → EndsInEntry x (outer ++ Entered (port_at x 0) way.Down ∷ []) downs
in_entry x outer [] = tt
in_entry x outer (d ∷ downs) = (outer, refl)

-- notices that all stay above have a shape
pub above_shape : (x : ℕ) (ns : List Notice) → SendsNone x ns → HasShape x None ns
above_shape x ns q = record { first = []; downs = []; back = ns; all = refl; begins = (tt, tt); go_down = tt; stay = q }

-- TWO

module _ (f t : ℕ) (lt : f < t) where
  apart : f ≡ t → ⊥
  apart e = omega (arith, e, lt)

  ups : (give : Option (ℕ × ℕ)) → SendsNone t (up_notices f give)
  ups None = tt
  ups (Some range) = stay t (Entered (port_at f 1) way.Up ∷ Left (port_at f 1) ∷ []) (apart, (tt, tt))

  ends : (over : Option Cause) → SendsNone t (end_notices f t over)
  ends None = tt
  ends (Some c) =
      stay t (Closed (port_at t 0) c ∷ Closed (port_at f 1) c ∷ Entered (port_at f 1) way.Close ∷ Closed (port_at f 0) c ∷ Left (port_at f 1) ∷ Unplugged (port_at t 0) (port_at f 1) ∷ Closed (port_at t 1) c ∷ [])
      (tt, (tt, (tt, (tt, (tt, (tt, (tt, tt)))))))

  passes : (over : Option Cause) → SendsNone t (passed_on t over)
  passes None = stay t (Closed (port_at t 1) body_too_large ∷ []) (tt, tt)
  passes (Some c) = tt

  late : (over : Option Cause) → SendsNone t (closed_late t over)
  late None = tt
  late (Some c) = stay t (Closed (port_at t 1) c ∷ []) (tt, tt)

  leaves : (p : Port) → SendsNone t (tells (Left p) ∷ [])
  leaves p = stay t (Left p ∷ []) (tt, tt)

  pub call_shape : (p : Port) (by : Way) (rec : ℕ) (acts : Acts) → HasShape t (Some (Entered p by)) (call_notices f t p by rec acts)
  call_shape p by rec acts = record {
    first = Entered p by ∷ [];
    downs = down_notices t rec acts;
    back = up_notices f acts.give ++ (end_notices f t acts.over ++ (tells (Left p) ∷ []));
    all = refl;
    begins = refl;
    go_down = downs_go t rec acts;
    stay = stay_both t (up_notices f acts.give) (end_notices f t acts.over ++ (tells (Left p) ∷ [])) (ups acts.give) (stay_both t (end_notices f t acts.over) (tells (Left p) ∷ []) (ends acts.over) (leaves p));
  }

  -- the body has grown too large
  too_many : SendsNone t (too_many_notices f t)
  too_many =
      stay t (Entered (port_at f 1) way.Up ∷ Closed (port_at f 0) body_too_large ∷ Closed (port_at f 1) body_too_large ∷ Closed (port_at t 0) body_too_large ∷ Entered (port_at t 0) way.Close ∷ [])
      (apart, (tt, (tt, (tt, (tt, tt)))))

  parted : SendsNone t (parted_notices f t)
  parted = stay t (Left (port_at t 0) ∷ Unplugged (port_at f 1) (port_at t 0) ∷ Dropped (port_at f 1) ∷ Left (port_at f 1) ∷ []) (tt, (tt, (tt, (tt, tt))))

  large_stays : (p : Port) (over : Option Cause) → SendsNone t (too_many_notices f t ++ (passed_on t over ++ (parted_notices f t ++ (closed_late t over ++ (tells (Left p) ∷ [])))))
  large_stays p over =
      stay_both t (too_many_notices f t) (passed_on t over ++ (parted_notices f t ++ (closed_late t over ++ (tells (Left p) ∷ [])))) too_many
      (stay_both t (passed_on t over) (parted_notices f t ++ (closed_late t over ++ (tells (Left p) ∷ []))) (passes over)
      (stay_both t (parted_notices f t) (closed_late t over ++ (tells (Left p) ∷ [])) parted
      (stay_both t (closed_late t over) (tells (Left p) ∷ []) (late over) (leaves p))))

  pub large_shape : (p : Port) (by : Way) (rec : ℕ) (acts : Acts) → HasShape t (Some (Entered p by)) (large_notices f t p by rec acts)
  large_shape p by rec acts = record {
    first = Entered p by ∷ [];
    downs = down_notices t rec acts;
    back = too_many_notices f t ++ (passed_on t acts.over ++ (parted_notices f t ++ (closed_late t acts.over ++ (tells (Left p) ∷ []))));
    all = refl;
    begins = refl;
    go_down = downs_go t rec acts;
    stay = large_stays p acts.over;
  }

pub begun_shape : (f t rec : ℕ) (acts : Acts) → HasShape t None (begun_notices f t rec acts)
begun_shape f t rec acts = record {
  first = Entered (port_at f 0) way.Down ∷ Entered (port_at t 0) way.Down ∷ [];
  downs = down_notices t rec acts;
  back = tells (Left (port_at t 0)) ∷ tells (Left (port_at f 0)) ∷ [];
  all = refl;
  begins = ((tt, (tt, tt)), in_entry t (Entered (port_at f 0) way.Down ∷ []) (down_notices t rec acts));
  go_down = downs_go t rec acts;
  stay = stay t (Left (port_at t 0) ∷ Left (port_at f 0) ∷ []) (tt, (tt, tt));
}

-- the ports of x are closed, or it is let go
pub two_closed_stay : (y x j k : ℕ) (c : Cause) → SendsNone y (tells (Closed (port_at x j) c) ∷ tells (Closed (port_at x k) c) ∷ [])
two_closed_stay y x j k c = stay y (Closed (port_at x j) c ∷ Closed (port_at x k) c ∷ []) (tt, (tt, tt))

pub all_closed_stay : (y x : ℕ) (c : Cause) → SendsNone y (all_closed x c)
all_closed_stay y x c = stay_both y (alone_closed x c) (tells (Closed (port_at x 2) c) ∷ tells (Closed (port_at x 3) c) ∷ []) (two_closed_stay y x 0 1 c) (two_closed_stay y x 2 3 c)

pub alone_freed_stays : (y x : ℕ) → SendsNone y (alone_freed x)
alone_freed_stays y x = stay y (LetGo (serial x) ∷ Freed (serial x) ∷ []) (tt, (tt, tt))

pub closed_stays : (f t : ℕ) (c : Cause) → SendsNone t (closed_notices f t c)
closed_stays f t c =
    stay t (Closed (port_at f 0) c ∷ Closed (port_at f 1) c ∷ Closed (port_at t 0) c ∷ Entered (port_at t 0) way.Close ∷ Closed (port_at t 1) c ∷ Left (port_at t 0) ∷ Unplugged (port_at f 1) (port_at t 0) ∷ [])
    (tt, (tt, (tt, (tt, (tt, (tt, (tt, tt)))))))

pub freed_stays : (f t : ℕ) → SendsNone t (freed_notices f t)
freed_stays f t = stay_both t (alone_freed f) (alone_freed t) (alone_freed_stays t f) (alone_freed_stays t t)

pub shut_stays : (f t : ℕ) (c : Cause) → SendsNone t (shut_notices f t c)
shut_stays f t c =
    let free : ℕ → List Notice = λ x. tells (Closed (port_at x 2) c) ∷ tells (Closed (port_at x 3) c) ∷ [] in
    stay_both t (closed_notices f t c) ((free f ++ free t) ++ freed_notices f t) (closed_stays f t c)
    (stay_both t (free f ++ free t) (freed_notices f t) (stay_both t (free f) (free t) (two_closed_stay t f 2 3 c) (two_closed_stay t t 2 3 c)) (freed_stays f t))

-- ONE

module _ (x : ℕ) where
  alone_ends : (over : Option Cause) → SendsNone x (alone_end x over)
  alone_ends None = tt
  alone_ends (Some c) = two_closed_stay x x 0 1 c

  alone_stays : (p : Port) (over : Option Cause) (given : List Said) → AllByRecursion (λ (m : Said). IsTagUp m.tag) given → SendsNone x (map (sent_from (port_at x 0)) given ++ (alone_end x over ++ (tells (Left p) ∷ [])))
  alone_stays p over given up =
      stay_both x (map (sent_from (port_at x 0)) given) (alone_end x over ++ (tells (Left p) ∷ [])) (ups_stay x x given up)
      (stay_both x (alone_end x over) (tells (Left p) ∷ []) (alone_ends over) (stay x (Left p ∷ []) (tt, tt)))

  pub alone_shape : (p : Port) (by : Way) (rec : ℕ) (acts : Acts) (given : List Said) → AllByRecursion (λ (m : Said). IsTagUp m.tag) given → HasShape x (Some (Entered p by)) (alone_call x p by rec acts given)
  alone_shape p by rec acts given up = record {
    first = Entered p by ∷ [];
    downs = map (sent_from (port_at x 1)) (downs_of rec acts);
    back = map (sent_from (port_at x 0)) given ++ (alone_end x acts.over ++ (tells (Left p) ∷ []));
    all = refl;
    begins = refl;
    go_down = downs_go x rec acts;
    stay = alone_stays p acts.over given up;
  }

  pub ignored_shape : (p : Port) (by : Way) → HasShape x (Some (Entered p by)) (alone_ignored p by)
  ignored_shape p by = record { first = Entered p by ∷ []; downs = []; back = tells (Left p) ∷ []; all = refl; begins = refl; go_down = tt; stay = stay x (Left p ∷ []) (tt, tt) }

  -- the user begins
  pub asked_shape : (rec : ℕ) (acts : Acts) → HasShape x None (alone_call x (port_at x 0) way.Down rec acts [])
  asked_shape rec acts = record {
    first = Entered (port_at x 0) way.Down ∷ [];
    downs = map (sent_from (port_at x 1)) (downs_of rec acts);
    back = alone_end x acts.over ++ (tells (Left (port_at x 0)) ∷ []);
    all = refl;
    begins = ((tt, tt), in_entry x [] (map (sent_from (port_at x 1)) (downs_of rec acts)));
    go_down = downs_go x rec acts;
    stay = alone_stays (port_at x 0) acts.over [] tt;
  }

  pub alone_closed_stays : (c : Cause) → SendsNone x (alone_closed x c)
  alone_closed_stays c = two_closed_stay x x 0 1 c

  pub alone_shut_stays : (c : Cause) → SendsNone x (alone_shut x c)
  alone_shut_stays c = stay_both x (all_closed x c) (alone_freed x) (all_closed_stay x x c) (alone_freed_stays x x)
