-- The user closes the opens that live, one after another.
use Rattle.std.proofs.Common.{◌≡◌, ℕ, List, [], ◌∷◌, ◌++◌, Some, None, refl, sym, ◌∙◌, ap, subst, append_assoc, append-nil}
use Rattle.std.specs.Prelude.{slice_get}
use Rattle.nb_terms.specs.declared.cause.Cause.{Cause}
use Rattle.nb_defs.specs.Records.{Out, out_texts, ended}
use Rattle.nb_graph.specs.Whole.{Objects}
use Rattle.nb_nodes.specs.declared.obj.Obj.{Obj}
use Rattle.nb_traced.specs.Plain.{without_graph}
use Rattle.nb_traced.proofs.Plain.{plain_append}
use Rattle.nb_record.specs.Logged.{Logged, Puts}
use Rattle.nb_runner.proofs.Puts.{Puts-nothing, Puts-outs}
use Rattle.nb_stack.specs.Client.{Client}
use Rattle.nb_machine.specs.Kinds.{Keeps}
use Rattle.nb_machine.specs.Lives.{Live, close, exchange}
use Rattle.nb_machine.specs.States.{State, bare, net0, with_live}
use Rattle.nb_machine.specs.Takings.{Over, AllTake, all_have, end_among, is_over}
use Rattle.nb_traced.specs.Outputs.{Traced, last_step}
use Rattle.nb_network.specs.declared.living.Living.{Living}
use Rattle.nb_open.specs.Ends.{closed_open}
use Rattle.nb_network.specs.Closings.{ClosesMany, closes_with}
use Rattle.nb_network.specs.Many.{AreApart, AreOpensOf, AreSound, IsStateOf, Many}
use Rattle.nb_network.specs.Steps.{FirstCloses}
use Rattle.nb_network.proofs.BareExchanges.{keeps_bare}
use Rattle.nb_network.proofs.Lists.{AreAround, apart_around}
use Rattle.nb_network.proofs.Stepping.{LeavesAll, its_link, leaves_last, texts_more}
use Rattle.nb_network.proofs.Traces.{traces_end, traces_none}
use Rattle.nb_network.proofs.Hearing.{bare_is}

-- none lives
pub no_close : (g : Objects Obj) (devices : List Client) (cause : Cause) (ls : List Live) → AreOpensOf g [] ls → (overs : List Over) × AllTake devices (close cause) ls [] [] overs
no_close g devices cause [] i = ([], all_have)
no_close g devices cause (l ∷ ls) i = absurd i

pub closes_none : (m : Many) (net : Client) (now opens : ℕ) (cause : Cause) (log : Logged) → m.list ≡ [] → ClosesMany m net now opens cause [] [] m log log
closes_none m net now opens cause log is = record {
  records = [];
  puts = Puts-nothing;
  none = is;
  closes_first = λ f. absurd (f is);
  closes = λ s state. no_close m.graph s.devices cause s.live (subst (λ os. AreOpensOf m.graph os s.live) is state.live);
  traces = λ outs h so_far traced fits. (traces_none (last_step outs) m opens [] outs h so_far refl traced fits).0;
}

-- one more is closed before others, over its client as over one without ports
pub closes_before : (s : State) (net : Client) (l : Live) (ls : List Live) (cause : Cause) (k : ℕ) (records later : List Out) → s.devices ≡ bare net ∷ [] → l.device ≡ net0 → l.number ≡ k → Keeps (closed_open l cause net (without_graph records)) →
    end_among l.number (without_graph records ++ (ended l.number cause ∷ [])) ≡ Some cause → closes_with (with_live s ls) cause (without_graph later) → closes_with (with_live s (l ∷ ls)) cause (without_graph ((records ++ (ended k cause ∷ [])) ++ later))
closes_before s net l ls cause k records later devices device number keeps its_end more =
    let put = without_graph records ++ (ended l.number cause ∷ []) in
    let over : Over = record { live = closed_open l cause (bare net) (without_graph records); cause = cause } in (
      over ∷ more.0,
      subst (λ z. AllTake s.devices (close cause) (l ∷ ls) z [] (over ∷ more.0))
          (ap (λ n. (without_graph records ++ (ended n cause ∷ [])) ++ without_graph later) number ∙ ap (λ z. z ++ without_graph later) (sym (plain_append records (ended k cause ∷ []))) ∙ sym (plain_append (records ++ (ended k cause ∷ [])) later))
          (is_over l ls [] (bare net) put (without_graph later) more.0 cause (ap (λ ds. slice_get ds l.device) devices ∙ its_link net l.device device) (keeps_bare l (exchange (close cause) net put) keeps) its_end more.1),
    )

-- the first of them, and then the others
module _ (m : Many) (net : Client) (w opens now : ℕ) (cause : Cause) (o : Living) (rest : List Living) (m1 : Many) (net1 : Client) (old mid : Logged) (is : m.list ≡ o ∷ rest) (sound : AreSound w opens net m) (x : FirstCloses m net o rest cause m1 net1 old mid) where
  pub first_leaves : LeavesAll m net w opens o m1 net1
  first_leaves = leaves_last m net w opens [] o rest m1 net1 is x.noded x.closes.released.others x.closes.released.same_room sound x.list x.net_is

  module _ (m2 : Many) (new : Logged) (y : ClosesMany m1 net1 now opens cause [] [] m2 mid new) where
    abbrev pub first_records : List Out
    first_records = x.closes.records ++ ended o.speaker.number cause ∷ []

    around : AreAround [] o rest
    around = apart_around [] o rest (subst AreApart is sound.apart)

    closes_live : (s : State) (ls : List Live) → IsStateOf m net now (with_live s ls) → closes_with (with_live s ls) cause (without_graph (first_records ++ y.records))
    closes_live s [] state = absurd (subst (λ os. AreOpensOf m.graph os []) is state.live)
    closes_live s (l ∷ ls) state =
        let i : AreOpensOf m.graph (o ∷ rest) (l ∷ ls) = subst (λ os. AreOpensOf m.graph os (l ∷ ls)) is state.live in
        closes_before s net l ls cause o.speaker.number x.closes.records y.records state.devices i.0.called.device i.0.called.number (x.closes.keeps l (bare_is i.0)) (x.closes.its_end l.number)
        (y.closes (with_live s ls) (record {
          devices = state.devices ∙ ap (λ c. bare c ∷ []) (sym first_leaves.same_net);
          time = state.time;
          live = subst (λ os. AreOpensOf m1.graph os ls) (sym x.list) (first_leaves.others rest ls around.back i.1);
        }))

    pub closes_more : ClosesMany m net now opens cause [] [] m2 old new
    closes_more = record {
      records = first_records ++ y.records;
      puts = Puts-outs first_records y.records (subst (Puts old mid) (ap (λ z. z ++ out_texts (ended o.speaker.number cause ∷ [])) x.closes.text ∙ sym (texts_more x.closes.records (ended o.speaker.number cause ∷ []))) x.puts) y.puts;
      none = y.none;
      closes_first = λ some. let f = x.closes.closes_first in (f.0, (f.1 ++ ended o.speaker.number cause ∷ []) ++ y.records, ap (λ z. (z ++ ended o.speaker.number cause ∷ []) ++ y.records) f.2);
      closes = λ s state. closes_live s s.live (record { devices = state.devices; time = state.time; live = state.live });
      traces = λ outs h so_far traced fits.
          let a = traces_end (last_step outs) m opens [] o rest None x.closes.records cause m1 is x.list x.closes.call x.closes.close x.closes.released.gone [] outs h so_far refl traced fits in
          let b = y.traces (outs ++ first_records) a.0.after (so_far ++ []) a.0.traced a.0.fits in
          record {
            after = b.after;
            traced = subst (λ z. Traced (outs ++ (first_records ++ y.records)) b.after z) (ap (λ z. z ++ []) (append-nil so_far)) (subst (λ z. Traced z b.after ((so_far ++ []) ++ [])) (append_assoc outs first_records y.records) b.traced);
            fits = b.fits;
          };
    }
