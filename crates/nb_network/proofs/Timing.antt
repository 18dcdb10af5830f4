-- A time comes to each of the opens that live, one after another.
use Rattle.std.proofs.Common.{◌≡◌, ℕ, ◌+◌, ◌-◌, ◌<◌, ◌≤◌, List, [], ◌∷◌, ◌++◌, length, map, Option, Some, None, refl, sym, ◌∙◌, ap, subst, append_assoc, append-nil, arith}
use Rattle.std.specs.Option.{option_or}
use Rattle.std.specs.List.{AllByRecursion}
use Rattle.std.proofs.lemmas.List.{length-append}
use Rattle.std.proofs.lemmas.List.Folds.{find-append}
use Rattle.nb_defs.specs.Records.{Out, out_texts, step, tick}
use Rattle.nb_ledger.specs.declared.event.Way.TheVariants.{Time}
use Rattle.nb_traced.specs.Plain.{without_graph}
use Rattle.nb_traced.proofs.Plain.{plain_append}
use Rattle.nb_record.specs.Logged.{Logged, Puts}
use Rattle.nb_runner.proofs.Puts.{Puts-nothing, Puts-outs}
use Rattle.nb_stack.specs.Client.{Client}
use Rattle.nb_machine.specs.Lives.{OpenInput, time, Live}
use Rattle.nb_machine.specs.Network.{passes_time}
use Rattle.nb_machine.specs.Scripts.{is_number}
use Rattle.nb_machine.specs.States.{State, bare, later_by, with_live}
use Rattle.nb_machine.specs.Takings.{Over, AllTake, all_have, lives_on, is_over}
use Rattle.nb_open.specs.Objects.{objects_ids}
use Rattle.nb_open.specs.declared.ended.Ended.{Ended}
use Rattle.nb_network.specs.declared.living.Living.{Living}
use Rattle.nb_network.specs.declared.over.HasEnded.{HasEnded}
use Rattle.nb_network.specs.Many.{AreApart, AreOpensOf, AreSound, HasTiedOnlyOf, IsApartFrom, IsNewestBut, IsStateOf, Many}
use Rattle.nb_network.specs.Steps.{ComesAt, IsOpenAt, StaysOn, TimesCome, TimesGive, TracesAt, left_by, place_after}
use Rattle.nb_network.specs.Takes.{AnswersBy, at_all, TakesRecord, arrival, awaited_over}
use Rattle.nb_network.proofs.Awaiting.{so_both}
use Rattle.nb_network.proofs.Lists.{AreAround, all_back, all_both, all_front, apart_around, opens_append, opens_move}
use Rattle.nb_network.proofs.Places.{place_grows, settled_list, some_at, steps_down}
use Rattle.nb_network.proofs.Stepping.{AwaitsOn, LeavesAll, OneGives, answers_none, one_awaits, one_gives, one_leaves}
use Rattle.nb_network.proofs.Traces.{traces_both, traces_none, traces_step}

-- SEVERAL TAKE

pub takes_both : (devices : List Client) (came : OpenInput) (ls : List Live) (put : List Out) (after : List Live) (over : List Over) → AllTake devices came ls put after over →
    (ms : List Live) (more : List Out) (later : List Live) (overs : List Over) → AllTake devices came ms more later overs → AllTake devices came (ls ++ ms) (put ++ more) (after ++ later) (over ++ overs)
takes_both devices came ls put after over all_have ms more later overs k = k
takes_both devices came ls put after over (lives_on l ls0 after0 link put0 more0 over0 got keeps none rest) ms more later overs k =
    subst (λ z. AllTake devices came (l ∷ (ls0 ++ ms)) z (after ++ later) (over0 ++ overs)) (sym (append_assoc put0 more0 more))
    (lives_on l (ls0 ++ ms) (after0 ++ later) link put0 (more0 ++ more) (over0 ++ overs) got keeps none (takes_both devices came ls0 more0 after0 over0 rest ms more later overs k))
takes_both devices came ls put after over (is_over l ls0 after0 link put0 more0 over0 cause got keeps some rest) ms more later overs k =
    subst (λ z. AllTake devices came (l ∷ (ls0 ++ ms)) z (after0 ++ later) (over ++ overs)) (sym (append_assoc put0 more0 more))
    (is_over l (ls0 ++ ms) (after0 ++ later) link put0 (more0 ++ more) (over0 ++ overs) cause got keeps some (takes_both devices came ls0 more0 after0 over0 rest ms more later overs k))

-- the first end of the one that is awaited
awaited_both : (awaited : Option ℕ) (over overs : List Over) → awaited_over awaited (over ++ overs) ≡ option_or (awaited_over awaited over) (awaited_over awaited overs)
awaited_both None over overs = refl
awaited_both (Some k) over overs = find-append (is_number k) over overs

answers_either : (a b : Option HasEnded) (x y : Option Over) → AnswersBy a x → AnswersBy b y → AnswersBy (option_or a b) (option_or x y)
answers_either None b None y h k = k
answers_either None b (Some o) y h k = absurd h
answers_either (Some e) b None y h k = absurd h
answers_either (Some e) b (Some o) y h k = h

pub answers_both : (awaited : Option ℕ) (a b : Option HasEnded) (over overs : List Over) → AnswersBy a (awaited_over awaited over) → AnswersBy b (awaited_over awaited overs) → AnswersBy (option_or a b) (awaited_over awaited (over ++ overs))
answers_both awaited a b over overs h k = subst (AnswersBy (option_or a b)) (sym (awaited_both awaited over overs)) (answers_either a b (awaited_over awaited over) (awaited_over awaited overs) h k)

-- NONE IS LEFT

pub times_none : (m : Many) (net : Client) (opens now : ℕ) (done : List Living) (awaited : Option ℕ) (log : Logged) → m.list ≡ done → TimesCome m net opens now done [] awaited None m net log log
times_none m net opens now done awaited log is = record {
  left = [];
  list = is ∙ sym (append-nil done);
  same_net = refl;
  gives = λ ls i. none ls i;
  others = all_stay done;
  waiting = λ kind c wait. wait;
  sound = λ w s. s;
  same_made = refl;
  tied = ((λ n. n), (λ n. n));
  newest = λ c. ((λ n. n), (λ n. n));
}
  where
    none : (ls : List Live) → AreOpensOf m.graph [] ls → TimesGive m net opens now ls awaited None m [] log log
    none [] i = record {
      records = [];
      puts = Puts-nothing;
      after = [];
      over = [];
      takes = all_have;
      lives = tt;
      answers = answers_none awaited None refl;
      traces = λ n. traces_none n m opens;
      first = λ n. refl;
    }
    none (l ∷ ls) i = absurd i

    all_stay : (os : List Living) → AllByRecursion (StaysOn m.graph m.graph) os
    all_stay [] = tt
    all_stay (p ∷ os) = ((λ l i. i), all_stay os)

-- ONE MORE

module _ (m : Many) (net : Client) (w opens now : ℕ) (done : List Living) (o : Living) (rest : List Living) (awaited : Option ℕ) (end : Option Ended) (found : Option HasEnded) (m1 : Many) (net1 : Client) (old mid : Logged) (is : m.list ≡ done ++ (o ∷ rest)) (sound : AreSound w opens net m)
    (c : ComesAt (λ (l : Live). Unit {0}) (time now) (Some Time) None m net done o rest awaited end found m1 net1 old mid) where
  leaves : LeavesAll m net w opens o m1 net1
  leaves = one_leaves (λ (l : Live). Unit {0}) (time now) (Some Time) None m net w opens done o rest awaited m1 net1 old mid is c.noded sound end found c (λ l i. tt)

  known : AwaitsOn m awaited found m1
  known = one_awaits (λ (l : Live). Unit {0}) (time now) (Some Time) None m net w opens done o rest awaited m1 net1 old mid is sound end found c (λ l i. tt)

  pub next_sound : AreSound w opens net1 m1
  next_sound = leaves.sound

  around : AreAround done o rest
  around = apart_around done o rest (subst AreApart is sound.apart)

  front_stays : (os : List Living) → AllByRecursion (IsApartFrom (objects_ids o.objects)) os → AllByRecursion (StaysOn m.graph m1.graph) os
  front_stays [] far = tt
  front_stays (p ∷ os) far = ((λ l i. (leaves.others (p ∷ []) (l ∷ []) (far.0, tt) (i, tt)).0), front_stays os far.1)

  module _ (later : Option HasEnded) (m2 : Many) (net2 : Client) (new : Logged) (t : TimesCome m1 net1 opens now (done ++ left_by end c.heard o) rest awaited later m2 net2 mid new) where
    gives_more : (ls : List Live) → AreOpensOf m.graph (o ∷ rest) ls → TimesGive m net opens now ls awaited (option_or found later) m2 (left_by end c.heard o ++ t.left) old new
    gives_more [] i = absurd i
    gives_more (l ∷ ls) i =
        let g : OneGives m net opens done o rest l (time now) (Some Time) None awaited end c.heard found m1 old mid =
        one_gives (λ (l : Live). Unit {0}) (time now) (Some Time) None m net opens done o rest awaited m1 old mid is end found net1 c l i.0 tt in
        let x = t.gives ls (leaves.others rest ls around.back i.1) in
        record {
          records = g.records ++ x.records;
          puts = Puts-outs g.records x.records g.puts x.puts;
          after = g.after ++ x.after;
          over = g.over ++ x.over;
          takes = subst (λ z. AllTake (bare net ∷ []) (time now) (l ∷ ls) z (g.after ++ x.after) (g.over ++ x.over)) (sym (plain_append g.records x.records))
              (takes_both (bare net ∷ []) (time now) (l ∷ []) (without_graph g.records) g.after g.over g.takes ls (without_graph x.records) x.after x.over
              (subst (λ (z : Client). AllTake (bare z ∷ []) (time now) ls (without_graph x.records) x.after x.over) leaves.same_net x.takes));
          lives = opens_append m2.graph (left_by end c.heard o) g.after t.left x.after
              (opens_move m1.graph m2.graph (StaysOn m1.graph m2.graph) (λ p k f j. f k j) (left_by end c.heard o) g.after (all_back (StaysOn m1.graph m2.graph) done (left_by end c.heard o) t.others) g.lives) x.lives;
          answers = answers_both awaited found later g.over x.over g.answers x.answers;
          traces = λ n. subst (λ k. TracesAt n m opens (g.records ++ x.records) (arrival k Time n ∷ map (λ l. arrival l.number Time n) ls) m2 opens) (sym i.0.called.number)
              (traces_both n m m1 m2 opens opens opens g.records x.records (arrival o.speaker.number Time n ∷ []) (map (λ l. arrival l.number Time n) ls) (g.traces n) (x.traces n));
          first = λ n. let f = g.first n in (f.0, f.1 ++ x.records, ap (λ z. z ++ x.records) f.2);
        }

    pub times_more : TimesCome m net opens now done (o ∷ rest) awaited (option_or found later) m2 net2 old new
    times_more = record {
      left = left_by end c.heard o ++ t.left;
      list = t.list ∙ append_assoc done (left_by end c.heard o) t.left;
      same_net = t.same_net ∙ ap (λ (z : Client). record z { ports = net2.ports }) leaves.same_net;
      gives = gives_more;
      others = all_both (StaysOn m.graph m1.graph) (StaysOn m1.graph m2.graph) (StaysOn m.graph m2.graph) done (λ p f h l i. h l (f l i)) (front_stays done around.front) (all_front (StaysOn m1.graph m2.graph) done (left_by end c.heard o) t.others);
      waiting = λ kind d wait. t.waiting kind d (leaves.waiting kind d wait);
      sound = λ v s. t.sound v (sound_again v s);
      same_made = t.same_made ∙ known.same_made;
      tied = so_both HasTiedOnlyOf awaited found later m m1 m2 known.tied t.tied;
      newest = λ d. so_both (λ k z. IsNewestBut k d z) awaited found later m m1 m2 (known.newest d) (t.newest d);
    }
      where
        sound_again : (v : ℕ) → AreSound v opens net m → AreSound v opens net1 m1
        sound_again v s = (one_leaves (λ (l : Live). Unit {0}) (time now) (Some Time) None m net v opens done o rest awaited m1 net1 old mid is c.noded s end found c (λ l i. tt)).sound

-- THE RECORD

-- all of them, after the STEP
pub times_record : (m : Many) (net : Client) (before w opens n ms now : ℕ) (awaited : Option ℕ) (answer : Option HasEnded) (m' : Many) (net' : Client) (none gathered old new : Logged) (s : State) → now ≡ before + ms → IsStateOf m net before s →
    TimesCome m net opens now [] m.list awaited answer m' net' none gathered → ((records : List Out) → Puts none gathered (out_texts records) → Puts old new (out_texts (step n ∷ records))) →
    TakesRecord m net before opens n (tick ms) m' net' now awaited answer old new s
times_record m net before w opens n ms now awaited answer m' net' none gathered old new s is state t puts =
    let g = t.gives s.live state.live in
    record {
      records = g.records;
      came = map (λ l. arrival l.number Time n) s.live;
      puts = puts g.records g.puts;
      does = record {
        after = with_live (later_by s ms) g.after;
        overs = g.over;
        network = passes_time ms g.after (without_graph g.records) g.over
            (subst (λ z. AllTake s.devices (time (z + ms)) s.live (without_graph g.records) g.after g.over) (sym state.time)
            (subst (λ z. AllTake s.devices (time z) s.live (without_graph g.records) g.after g.over) is
            (subst (λ z. AllTake z (time now) s.live (without_graph g.records) g.after g.over) (sym state.devices) g.takes)));
        is_state = record {
          devices = state.devices ∙ ap (λ c. bare c ∷ []) (sym t.same_net);
          time = ap (λ z. z + ms) state.time ∙ sym is;
          live = subst (λ os. AreOpensOf m'.graph os g.after) (sym t.list) g.lives;
        };
        answers = g.answers;
        arrives = at_all ms;
      };
      traces = λ waits outs h so_far traced fits. traces_step n m opens g.records (map (λ l. arrival l.number Time n) s.live) m' opens (g.traces n) waits outs h so_far traced fits;
      first = g.first n;
      waiting = t.waiting;
      same_made = t.same_made;
      tied = t.tied.1;
      newest = λ c. (t.newest c).1;
    }

abbrev pub ComesNext : Many → Client → ℕ → ℕ → Option ℕ → Option HasEnded → ℕ → Many → Client → Logged → Logged → Type 0
ComesNext m net now place awaited found next m1 net1 old mid =
    (end : Option Ended) × (next ≡ place_after end place) × ((o : Living) (at : IsOpenAt m.list place o) → ComesAt (λ (l : Live). Unit {0}) (time now) (Some Time) None m net at.before o at.behind awaited end found m1 net1 old mid)

-- what the next call takes for granted
pub next_fits : (m : Many) (net : Client) (w opens now place : ℕ) (awaited : Option ℕ) (found : Option HasEnded) (next : ℕ) (m1 : Many) (net1 : Client) (old mid : Logged) → place < length m.list → AreSound w opens net m → ComesNext m net now place awaited found next m1 net1 old mid →
    AreSound w opens net1 m1 × (length m1.list - next < length m.list - place) × (next ≤ length m1.list)
next_fits m net w opens now place awaited found next m1 net1 old mid low sound x =
    let s = some_at m.list place low in
    let c = x.2 s.0 s.1 in
    let d = steps_down x.0 c.heard m.list m1.list place s.0 s.1 (settled_list x.0 s.1.before s.0 s.1.behind net None awaited c.heard c.told m1.list net1 found old mid c.settles) in
    (next_sound m net w opens now s.1.before s.0 s.1.behind awaited x.0 found m1 net1 old mid s.1.all sound c, subst (λ z. length m1.list - z < length m.list - place) (sym x.1) d.0, subst (λ z. z ≤ length m1.list) (sym x.1) d.1)

pub pass_more : (m : Many) (net : Client) (w opens now place : ℕ) (awaited : Option ℕ) (found later : Option HasEnded) (next : ℕ) (m1 : Many) (net1 : Client) (m2 : Many) (net2 : Client) (old mid new : Logged) → place < length m.list → AreSound w opens net m → ComesNext m net now place awaited found next m1 net1 old mid →
    ((w opens : ℕ) → AreSound w opens net1 m1 → (done rest : List Living) → m1.list ≡ done ++ rest → length done ≡ next → TimesCome m1 net1 opens now done rest awaited later m2 net2 mid new) →
    (done rest : List Living) → m.list ≡ done ++ rest → length done ≡ place → TimesCome m net opens now done rest awaited (option_or found later) m2 net2 old new
pass_more m net w opens now place awaited found later next m1 net1 m2 net2 old mid new low sound x times done [] is len =
    absurd (let a = ap length is in let b = length-append {A = Living} done [] in omega (arith, a, b, len, low))
pass_more m net w opens now place awaited found later next m1 net1 m2 net2 old mid new low sound x times done (o ∷ rest) is len =
    let c = x.2 o (record { before = done; behind = rest; all = is; place_is = len }) in
    times_more m net w opens now done o rest awaited x.0 found m1 net1 old mid is sound c later m2 net2 new
    (times w opens (next_sound m net w opens now done o rest awaited x.0 found m1 net1 old mid is sound c) (done ++ left_by x.0 c.heard o) rest
    (settled_list x.0 done o rest net None awaited c.heard c.told m1.list net1 found old mid c.settles ∙ sym (append_assoc done (left_by x.0 c.heard o) rest))
    (place_grows x.0 c.heard o done place len ∙ sym x.1))

-- none is left from this place on
pub pass_none : (m : Many) (net : Client) (opens now place : ℕ) (awaited : Option ℕ) (log : Logged) → place ≡ length m.list → (done rest : List Living) → m.list ≡ done ++ rest → length done ≡ place → TimesCome m net opens now done rest awaited None m net log log
pass_none m net opens now place awaited log low done [] is len = times_none m net opens now done awaited log (is ∙ append-nil done)
pass_none m net opens now place awaited log low done (o ∷ rest) is len = absurd (let a = ap length is in let b = length-append done (o ∷ rest) in omega (arith, a, b, len, low))
