-- The worked output of two pings is traced.
use Rattle.std.proofs.Common.{◌≡◌, inl, inr, ℕ, ◌+◌, ◌-◌, ◌≤◌, ◌==◌, Bool, true, false, List, [], ◌∷◌, ◌++◌, fold, Option, Some, None, refl, sym, ◌∙◌, ap, subst, arith, if◌then◌else◌}
use Rattle.std.proofs.lemmas.Bool.{cases_eq, eq-eqb, ne_eqb, false≢true}
use Rattle.nb_terms.specs.declared.cause.Cause.{Cause}
use Rattle.nb_defs.specs.Records.{step, sent, command, tried}
use Rattle.nb_ledger.specs.declared.port.Port.{Port}
use Rattle.nb_ledger.specs.declared.port.PortState.TheVariants as port
use Rattle.nb_ledger.specs.declared.event.Way.{Way}
use Rattle.nb_ledger.specs.declared.event.Way.TheVariants.{Up, Down}
use Rattle.nb_ledger.specs.declared.event.GraphEvent.{GraphEvent}
use Rattle.nb_ledger.specs.declared.event.GraphEvent.TheVariants.{Made, Held, LetGo, Plugged, Entered, Left, Dropped, Closed, Unplugged, Freed}
use Rattle.nb_ledger.specs.GraphRun.{GraphState, GraphRunOf, Running, alone, but_at, ports_but, new_ports, with_port_state, with_stack, owed, object_count, freed}
use Rattle.nb_graph.specs.Whole.{port_at}
use Rattle.nb_frames.specs.Frames.{is_one_of}
use Rattle.nb_traced.specs.Holdings.{Holdings, Kin, GraphObject, no_holdings, no_state}
use Rattle.nb_traced.specs.Pieces.{IsCallOn, AreGone, BeginsBy, event_records, happens_then, puts_then}
use Rattle.nb_traced.specs.Outputs.{Traced, last_step, at_first, apart, commands, opens, calls, ends}
use Rattle.nb_traced.specs.Example.{ping_made, example_ping_asks, ping_begins, ping_ends, two_pings, one_ends, came_to_two, came_to_both}
use Rattle.nb_traced.proofs.OnEntries.{events_on_entries}
use Rattle.nb_traced.proofs.Serials.{one_cases}
use Rattle.nb_traced.proofs.OneState.{rest_of}

-- what the events of a ping do
abbrev does : GraphState → GraphEvent → GraphState
does s (Made x kind) = record { made = x.0; live = but_at x.0 true s.live; holds = but_at x.0 0 s.holds; port = ports_but x.0 new_ports s.port; stack = s.stack }
does s (Held x) = record s { holds = but_at x.0 (s.holds x.0 + 1) s.holds }
does s (LetGo x) = owed x.0 (record s { holds = but_at x.0 (s.holds x.0 - 1) s.holds })
does s (Entered p way) = with_stack (Running p way ∷ s.stack) s
does s (Left p) = owed p.obj.0 (with_stack (rest_of s.stack) s)
does s (Closed p cause) = with_port_state p port.Closed s
does s (Freed x) = freed x.0 (with_stack (rest_of s.stack) s)
does s (Plugged p q) = s
does s (Dropped p) = s
does s (Unplugged p q) = s

abbrev after : GraphState → List GraphEvent → GraphState
after s es = fold does s es

abbrev first_made : GraphState
first_made = after no_state (ping_made 1)

abbrev both_made : GraphState
both_made = after first_made (ping_made 2)

abbrev one_left : Cause → GraphState
one_left cause = after both_made (ping_ends 2 cause)

abbrev first_ping : Kin
first_ping = record { number = 0; pieces = record { serial = 1; kind = 7 } ∷ [] }

abbrev second_ping : Kin
second_ping = record { number = 1; pieces = record { serial = 2; kind = 7 } ∷ [] }

-- who lives is no newer than the one made last
newest_made : (x n : ℕ) (f : ℕ → Bool) → n ≤ x → ((y : ℕ) → f y ≡ true → y ≤ n) → (y : ℕ) → but_at x true f y ≡ true → y ≤ x
newest_made x n f up below y is = elim (cases_eq y x) [
  | inl e ↦ omega (arith, e)
  | inr other ↦ let low : y ≤ n = below y (sym (ap (λ b. if b then true else f y) (ne_eqb y x other)) ∙ is) in omega (arith, low, up)
]

none_lives : (y : ℕ) → no_state.live y ≡ true → y ≤ 0
none_lives y is = absurd (false≢true is)

some_pieces : (p : GraphObject) (ps : List GraphObject) → p ∷ ps ≡ [] → ⊥
some_pieces p ps e = cc

-- a message or a time comes to the object x by p, and it sends
a_call : (k x : ℕ) (p : Port) (way : Way) (s : GraphState) → GraphRunOf s (Entered p way ∷ Left p ∷ []) s → s.stack ≡ [] → p.obj.0 ≡ x → is_one_of (x ∷ []) p.obj.0 ≡ true →
    (by : Option Way) → BeginsBy x by (Entered p way ∷ Left p ∷ []) → IsCallOn k (x ∷ []) x by (event_records (Entered p way ∷ []) ++ (example_ping_asks k ++ event_records (Left p ∷ []))) s s
a_call k x p way s run still object mine by begins = record {
  events = Entered p way ∷ Left p ∷ [];
  stand = happens_then false (Entered p way) (example_ping_asks k ++ event_records (Left p ∷ [])) (Left p ∷ [])
      (puts_then (p.obj.0 == x) (tried k 1) (sent [] ∷ event_records (Left p ∷ [])) (Left p ∷ []) (eq-eqb p.obj.0 x object) refl
      (puts_then true (sent []) (event_records (Left p ∷ [])) (Left p ∷ []) refl tt (events_on_entries k x true (Left p ∷ []))));
  run = run;
  within = (mine, (mine, tt));
  rests = still;
  begins = begins;
}

first_run : GraphRunOf no_state (ping_made 1) first_made
first_run = (_, (tt, refl, refl), (_, (tt, refl, refl), refl))

second_run : GraphRunOf first_made (ping_made 2) both_made
second_run = (_, (tt, refl, refl), (_, (tt, refl, refl), refl))

first_begins : GraphRunOf first_made (Entered (port_at 1 0) Down ∷ Left (port_at 1 0) ∷ []) first_made
unfolding owed object_count
first_begins = (_, inl (tt, (refl, tt), refl), (_, (Down, [], refl, refl), refl))

second_begins : GraphRunOf both_made (Entered (port_at 2 0) Down ∷ Left (port_at 2 0) ∷ []) both_made
unfolding owed object_count
second_begins = (_, inl (tt, (refl, tt), refl), (_, (Down, [], refl, refl), refl))

first_receives : GraphRunOf both_made (Entered (port_at 1 1) Up ∷ Left (port_at 1 1) ∷ []) both_made
unfolding owed object_count
first_receives = (_, inl (tt, (omega arith, omega arith, tt), refl), (_, (Up, [], refl, refl), refl))

second_ends : (cause : Cause) → GraphRunOf both_made (ping_ends 2 cause) (one_left cause)
unfolding owed object_count
second_ends cause = (
  _,
  inl (tt, (omega arith, omega arith, tt), refl),
  (
    _,
    alone tt refl refl,
    (
      _,
      alone tt refl refl,
      (
        _,
        (Up, [], refl, refl),
        (
          _,
          (tt, omega arith, refl),
          (_, ([], refl, refl), refl),
        ),
      ),
    ),
  ),
)

at_first_open : Traced (ping_begins 0 1) (record { state = first_made; living = first_ping ∷ []; waits = []; begun = 1 }) []
at_first_open =
    let a : Traced (command 0 1 0 false [] ∷ []) no_holdings [] = commands [] 0 1 0 false [] no_holdings [] at_first refl in
    let c = opens (command 0 1 0 false [] ∷ []) no_holdings [] (ping_made 1) first_made [] first_ping 6 0 0 0 [] a (tt, (tt, tt)) first_run refl tt (inl refl) refl (some_pieces _ []) tt (newest_made 1 0 no_state.live (omega arith) none_lives) (omega arith) in
    calls _ _ _ _ [] [] first_ping None first_made c refl (a_call 0 1 (port_at 1 0) Down first_made first_begins refl refl refl None (tt, (tt, tt))) refl

at_second_open : Traced (ping_begins 0 1 ++ ping_begins 1 2) (record { state = both_made; living = first_ping ∷ second_ping ∷ []; waits = []; begun = 2 }) []
at_second_open =
    let h : Holdings = record { state = first_made; living = first_ping ∷ []; waits = []; begun = 1 } in
    let a = commands (ping_begins 0 1) 0 1 0 false [] h [] at_first_open refl in
    let c = opens _ h [] (ping_made 2) both_made [] second_ping 6 0 0 0 [] a (tt, (tt, tt)) second_run refl tt (inl refl) refl (some_pieces _ []) tt (newest_made 2 1 first_made.live (omega arith) (newest_made 1 0 no_state.live (omega arith) none_lives)) (omega arith) in
    calls _ _ _ _ (first_ping ∷ []) [] second_ping None both_made c refl (a_call 1 2 (port_at 2 0) Down both_made second_begins refl refl refl None (tt, (tt, tt))) refl

abbrev pub both_live : Holdings
both_live = record { state = both_made; living = first_ping ∷ second_ping ∷ []; waits = []; begun = 2 }

pub two_live : Traced two_pings both_live came_to_two
unfolding last_step
two_live =
    let a = apart (ping_begins 0 1 ++ ping_begins 1 2) (step 1 ∷ []) both_live [] at_second_open (tt, tt) in
    calls _ _ both_live [] [] (second_ping ∷ []) first_ping (Some Up) both_made a refl (a_call 0 1 (port_at 1 1) Up both_made first_receives refl refl refl (Some Up) (record { port = port_at 1 1; rest = Left (port_at 1 1) ∷ []; first = refl; object = refl; outside = tt; inner = (tt, tt) })) refl

ending_call : (cause : Cause) → IsCallOn 1 (2 ∷ []) 2 (Some Up) (event_records (ping_ends 2 cause)) both_made (one_left cause)
unfolding owed object_count
ending_call cause = record {
  events = ping_ends 2 cause;
  stand = events_on_entries 1 2 false (ping_ends 2 cause);
  run = second_ends cause;
  within = (refl, (refl, (refl, (refl, (refl, (refl, tt))))));
  rests = refl;
  begins = record {
    port = port_at 2 1;
    rest = Closed (port_at 2 0) cause ∷ Closed (port_at 2 1) cause ∷ Left (port_at 2 1) ∷ LetGo (record { 0 = 2 }) ∷ Freed (record { 0 = 2 }) ∷ [];
    first = refl;
    object = refl;
    outside = tt;
    inner = (tt, (tt, (tt, (tt, (tt, tt)))));
  };
}

second_gone : (cause : Cause) → AreGone (2 ∷ []) (one_left cause)
unfolding owed object_count
second_gone cause x is = elim (one_cases 2 x [] is) [
  | inl e ↦ subst (λ z. (one_left cause).live z ≡ false) (sym e) refl
  | inr e ↦ absurd (false≢true e)
]

pub one_has_ended : (cause : Cause) → Traced (one_ends cause) (record { state = one_left cause; living = first_ping ∷ []; waits = []; begun = 2 }) came_to_both
unfolding last_step
one_has_ended cause =
    let a = apart two_pings (step 2 ∷ []) both_live came_to_two two_live (tt, tt) in
    ends _ (event_records (ping_ends 2 cause)) both_live came_to_two (first_ping ∷ []) [] second_ping (Some Up) (one_left cause) cause a refl (ending_call cause) refl (second_gone cause)
