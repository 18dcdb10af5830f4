-- The user asks one of the opens that live, or closes it: what it is to the machine, and that the others stay as they are.
use Rattle.std.proofs.Common.{◌≡◌, ◌==◌, ◌||◌, Bool, true, false, ℕ, List, [], ◌∷◌, ◌++◌, Option, None, refl, sym, ◌∙◌, ap, subst, append-nil}
use Rattle.std.specs.List.{AllByRecursion, list_any}
use Rattle.std.proofs.lemmas.Bool.{eq-eqb, ne_eqb}
use Rattle.nb_terms.specs.declared.cause.Cause.{Cause}
use Rattle.nb_defs.specs.Records.{Out, ended, out_texts}
use Rattle.nb_sans.specs.Sessions.{ReadTask}
use Rattle.nb_record.specs.Logged.{Logged, Puts}
use Rattle.nb_stack.specs.Client.{Client}
use Rattle.nb_machine.specs.Lives.{Live, close, exchange, task}
use Rattle.nb_machine.specs.States.{State, bare}
use Rattle.nb_machine.specs.Takings.{Over, AllTake, all_have, is_over}
use Rattle.nb_traced.specs.Outputs.{last_step}
use Rattle.nb_traced.specs.Plain.{without_graph}
use Rattle.nb_traced.proofs.Plain.{plain_append}
use Rattle.nb_open.specs.declared.ended.Ended.{Ended}
use Rattle.nb_network.specs.declared.living.Living.{Living}
use Rattle.nb_open.specs.Ends.{closed_open}
use Rattle.nb_open.specs.Objects.{AreDriveObjects}
use Rattle.nb_network.specs.declared.over.HasEnded.{HasEnded}
use Rattle.nb_network.specs.Many.{AreApart, AreOpensOf, AreSound, IsStateOf, IsUntied, Many}
use Rattle.nb_network.specs.Ones.{AsksOne, ClosesAt, ClosesOne, HasDrive, HasOpen}
use Rattle.nb_network.specs.Steps.{ComesAt, IsOpenAt, left_by}
use Rattle.nb_network.proofs.BareExchanges.{keeps_bare}
use Rattle.nb_network.proofs.Lists.{AreAround, PartedAt, all_at, all_but, apart_around, opens_append, opens_part_at}
use Rattle.nb_network.proofs.Stepping.{AwaitsOn, LeavesAll, OneGives, its_link, leaves_last, one_awaits, one_gives, one_leaves, texts_more}
use Rattle.nb_network.proofs.Traces.{traces_end}
use Rattle.nb_network.proofs.Hearing.{bare_is}

-- the open at the place of this number is a drive
pub drive_there : (number : ℕ) (list : List Living) (place : ℕ) (o : Living) → HasDrive number list → IsOpenAt list place o → o.speaker.number ≡ number → AreDriveObjects o.objects
drive_there number list place o h at is = all_at (λ (p : Living). p.speaker.number ≡ number → AreDriveObjects p.objects) at.before o at.behind (subst (AllByRecursion (λ (p : Living). p.speaker.number ≡ number → AreDriveObjects p.objects)) at.all h.drive) is

-- it isn't so that none has the number
pub some_has : (number : ℕ) (list : List Living) → HasOpen number list → AllByRecursion (λ (p : Living). p.speaker.number ≡ number → ⊥) list → ⊥
some_has number list h none = all_at (λ (p : Living). p.speaker.number ≡ number → ⊥) h.before h.own h.behind (subst (AllByRecursion (λ (p : Living). p.speaker.number ≡ number → ⊥)) h.all none) h.number_is

-- it has it, where one has
any_right : (b : Bool) → (b || true) ≡ true
any_right true = refl
any_right false = refl

any_in : (f : Living → Bool) (before : List Living) (o : Living) (behind : List Living) → f o ≡ true → list_any f (before ++ (o ∷ behind)) ≡ true
any_in f [] o behind e = ap (λ b. b || list_any f behind) e
any_in f (p ∷ before) o behind e = ap (λ b. f p || b) (any_in f before o behind e) ∙ any_right (f p)

pub number_there : (number : ℕ) (list : List Living) (place : ℕ) (o : Living) → IsOpenAt list place o → o.speaker.number ≡ number → list_any (λ p. p.speaker.number == number) list ≡ true
number_there number list place o at is = ap (list_any (λ p. p.speaker.number == number)) at.all ∙ any_in (λ p. p.speaker.number == number) at.before o at.behind (eq-eqb o.speaker.number number is)

pub number_nowhere : (number : ℕ) (list : List Living) → AllByRecursion (λ (p : Living). p.speaker.number ≡ number → ⊥) list → list_any (λ p. p.speaker.number == number) list ≡ false
number_nowhere number [] none = refl
number_nowhere number (p ∷ list) none = ap (λ b. b || list_any (λ q. q.speaker.number == number) list) (ne_eqb p.speaker.number number none.0) ∙ number_nowhere number list none.1

pub open_there : (number : ℕ) (list : List Living) (place : ℕ) (o : Living) → IsOpenAt list place o → o.speaker.number ≡ number → HasOpen number list
open_there number list place o at is = record { before = at.before; own = o; behind = at.behind; all = at.all; number_is = is }

-- A DRIVE IS ASKED

module _ (blocks : ReadTask) (number : ℕ) (m : Many) (net : Client) (now w opens place : ℕ) (o : Living) (at : IsOpenAt m.list place o) (number_is : o.speaker.number ≡ number) (sound : AreSound w opens net m) (awaited : Option ℕ) (end : Option Ended) (answer : Option HasEnded) (m' : Many) (net' : Client) (old new : Logged)
    (c : ComesAt (λ (l : Live). Unit {0}) (task blocks now) None None m net at.before o at.behind awaited end answer m' net' old new) where
  leaves : LeavesAll m net w opens o m' net'
  leaves = one_leaves (λ (l : Live). Unit {0}) (task blocks now) None None m net w opens at.before o at.behind awaited m' net' old new at.all c.noded sound end answer c (λ l i. tt)

  known : AwaitsOn m awaited answer m'
  known = one_awaits (λ (l : Live). Unit {0}) (task blocks now) None None m net w opens at.before o at.behind awaited m' net' old new at.all sound end answer c (λ l i. tt)

  pub asked_sound : AreSound w opens net' m'
  asked_sound = leaves.sound

  around : AreAround at.before o at.behind
  around = apart_around at.before o at.behind (subst AreApart at.all sound.apart)

  module _ (s : State) (state : IsStateOf m net now s) where
    parted : PartedAt m.graph at.before o at.behind s.live
    parted = opens_part_at m.graph at.before o at.behind s.live (subst (λ os. AreOpensOf m.graph os s.live) at.all state.live)

    gives : OneGives m net opens at.before o at.behind parted.live (task blocks now) None None awaited end c.heard answer m' old new
    gives = one_gives (λ (l : Live). Unit {0}) (task blocks now) None None m net opens at.before o at.behind awaited m' old new at.all end answer net' c parted.live parted.is tt

    live_after : AreOpensOf m'.graph m'.list (parted.front ++ (gives.after ++ parted.back))
    live_after = subst (λ os. AreOpensOf m'.graph os (parted.front ++ (gives.after ++ parted.back))) (sym gives.list)
        (opens_append m'.graph at.before parted.front (left_by end c.heard o ++ at.behind) (gives.after ++ parted.back) (leaves.others at.before parted.front around.front parted.fronts)
        (opens_append m'.graph (left_by end c.heard o) gives.after at.behind parted.back gives.lives (leaves.others at.behind parted.back around.back parted.backs)))

    pub asks_one : AsksOne blocks number m net now opens awaited answer m' net' old new s
    asks_one = record {
      records = gives.records;
      puts = gives.puts;
      does = record {
        front = parted.front;
        own = parted.live;
        back = parted.back;
        all = parted.all;
        number_is = parted.is.called.number ∙ number_is;
        after = gives.after;
        over = gives.over;
        takes = subst (λ z. AllTake z (task blocks now) (parted.live ∷ []) (without_graph gives.records) gives.after gives.over) (sym state.devices) gives.takes;
        state = record {
          devices = state.devices ∙ ap (λ z. bare z ∷ []) (sym leaves.same_net);
          time = state.time;
          live = live_after;
        };
      };
      answers = gives.answers;
      traces = λ waits outs h so_far traced fits. (gives.traces (last_step outs) waits outs h so_far refl traced fits).0;
      waiting = leaves.waiting;
      same_made = known.same_made;
      tied = known.tied;
      newest = known.newest;
    }

-- AN OPEN IS CLOSED

module _ (number : ℕ) (cause : Cause) (m : Many) (net : Client) (now w opens place : ℕ) (o : Living) (at : IsOpenAt m.list place o) (number_is : o.speaker.number ≡ number) (sound : AreSound w opens net m) (m' : Many) (net' : Client) (old new : Logged)
    (x : ClosesAt m net at.before o at.behind cause m' net' old new) where
  pub closed_leaves : LeavesAll m net w opens o m' net'
  closed_leaves = leaves_last m net w opens at.before o at.behind m' net' at.all x.noded x.closes.released.others x.closes.released.same_room sound x.list x.net_is

  abbrev pub closed_records : List Out
  closed_records = x.closes.records ++ ended o.speaker.number cause ∷ []

  beside : AreAround at.before o at.behind
  beside = apart_around at.before o at.behind (subst AreApart at.all sound.apart)

  module _ (s : State) (state : IsStateOf m net now s) where
    cut_at : PartedAt m.graph at.before o at.behind s.live
    cut_at = opens_part_at m.graph at.before o at.behind s.live (subst (λ os. AreOpensOf m.graph os s.live) at.all state.live)

    abbrev over : Over
    over = record { live = closed_open cut_at.live cause (bare net) (without_graph x.closes.records); cause = cause }

    takes : AllTake s.devices (close cause) (cut_at.live ∷ []) (without_graph closed_records) [] (over ∷ [])
    takes =
        let l = cut_at.live in
        let put = without_graph x.closes.records ++ (ended l.number cause ∷ []) in
        subst (λ z. AllTake z (close cause) (l ∷ []) (without_graph closed_records) [] (over ∷ [])) (sym state.devices)
        (subst (λ z. AllTake (bare net ∷ []) (close cause) (l ∷ []) z [] (over ∷ []))
        (append-nil put ∙ (ap (λ n. without_graph x.closes.records ++ (ended n cause ∷ [])) cut_at.is.called.number ∙ sym (plain_append x.closes.records (ended o.speaker.number cause ∷ []))))
        (is_over l [] [] (bare net) put [] [] cause (its_link net l.device cut_at.is.called.device) (keeps_bare l (exchange (close cause) net put) (x.closes.keeps l (bare_is cut_at.is))) (x.closes.its_end l.number) all_have))

  pub closes_one : ClosesOne number cause m net now opens m' net' old new
  closes_one = record {
    records = closed_records;
    puts = subst (Puts old new) (ap (λ z. z ++ out_texts (ended o.speaker.number cause ∷ [])) x.closes.text ∙ sym (texts_more x.closes.records (ended o.speaker.number cause ∷ []))) x.puts;
    closes_first = let f = x.closes.closes_first in (f.0, f.1 ++ ended o.speaker.number cause ∷ [], ap (λ z. z ++ ended o.speaker.number cause ∷ []) f.2);
    does = λ s state.
        let p = cut_at s state in
        record {
          front = p.front;
          own = p.live;
          back = p.back;
          all = p.all;
          number_is = p.is.called.number ∙ number_is;
          after = [];
          over = over s state ∷ [];
          takes = takes s state;
          state = record {
            devices = state.devices ∙ ap (λ z. bare z ∷ []) (sym closed_leaves.same_net);
            time = state.time;
            live = subst (λ os. AreOpensOf m'.graph os (p.front ++ p.back)) (sym x.list)
                (opens_append m'.graph at.before p.front at.behind p.back (closed_leaves.others at.before p.front beside.front p.fronts) (closed_leaves.others at.behind p.back beside.back p.backs));
          };
        };
    gone = λ s state. refl;
    traces = λ waits outs h so_far traced fits.
        (traces_end (last_step outs) m opens at.before o at.behind None x.closes.records cause m' at.all x.list x.closes.call x.closes.close x.closes.released.gone waits outs h so_far refl traced fits).0;
    waiting = closed_leaves.waiting;
    tied = λ none. subst (AllByRecursion IsUntied) (sym x.list) (all_but IsUntied at.before o at.behind (subst (AllByRecursion IsUntied) at.all none));
  }
