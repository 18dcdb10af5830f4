-- What a client puts at the end of a run: without the records of the graph it is what its machine closes, it ends with
-- DONE, and no object lives after it.
use Rattle.std.proofs.Common.{◌≡◌, ℕ, List, [], ◌∷◌, ◌++◌, length, refl, sym, ◌∙◌, ap, subst, arith, append_assoc, length-append}
use Rattle.nb_defs.specs.Records.{Out, done}
use Rattle.nb_terms.specs.declared.cause.Cause.{Cause}
use Rattle.nb_record.specs.Logged.{Logged}
use Rattle.nb_traced.specs.Plain.{without_graph}
use Rattle.nb_traced.proofs.Plain.{plain_append}
use Rattle.nb_machine.specs.Courses.{Progress, Standing, ready, running, waiting, reaching, yielded, handing, left, handed_off, stopped, nowhere}
use Rattle.nb_machine.specs.Closings.{Shuts}
use Rattle.nb_traced.specs.Holdings.{Holdings, no_holdings}
use Rattle.nb_traced.specs.Outputs.{Arrived, Traced, apart}
use Rattle.nb_network.specs.Takes.{ClosesFirst}
use Rattle.nb_client.specs.Snapshots.{Snapshot, StandsForProgress, FitsOutput}
use Rattle.nb_client.specs.Progressing.{ShutsStanding, EndsEmpty, FinishesBy}

-- these records close a run of the machine, and of the graph
pub record ClosesAll (m : Progress) (p : Holdings) (number : ℕ) (closers : List Out) : Type 0 where
  pub put : List Out
  pub shuts : Shuts m.standing put
  pub plain : without_graph closers ≡ put ++ done number ∷ []
  pub front : List Out
  pub last : closers ≡ front ++ done number ∷ []
  pub shown_first : ShutsStanding m.standing closers
  pub traces : (outs : List Out) (came : List Arrived) → Traced outs p came → EndsEmpty (outs ++ closers) came

-- they are more than records of the graph
pub closes_some : {m : Progress} {p : Holdings} {number : ℕ} {closers : List Out} → ClosesAll m p number closers → without_graph closers ≡ [] → closers ≡ []
closes_some {m} {p} {number} {closers} q none =
    absurd (omega (arith, ap length (sym none ∙ q.plain), length-append q.put (done number ∷ [])))

-- what begins with a close begins so with more after it
closes_more : (cause : Cause) (xs ys : List Out) → ClosesFirst cause xs → ClosesFirst cause (xs ++ ys)
closes_more cause xs ys (p, rest, all) = (p, rest ++ ys, ap (λ zs. zs ++ ys) all)

shuts_more : (s : Standing) (xs ys : List Out) → ShutsStanding s xs → ShutsStanding s (xs ++ ys)
shuts_more ready xs ys h = tt
shuts_more (running s inner outer) xs ys h = λ some. closes_more _ xs ys (h some)
shuts_more (waiting s w) xs ys h = λ some. closes_more _ xs ys (h some)
shuts_more (reaching s inner outer next) xs ys h = λ some. closes_more _ xs ys (h some)
shuts_more (yielded s inner outer) xs ys h = λ some. closes_more _ xs ys (h some)
shuts_more (handing s rest) xs ys h = λ some. closes_more _ xs ys (h some)
shuts_more (left s outer cause) xs ys h = λ some. closes_more _ xs ys (h some)
shuts_more (handed_off s) xs ys h = λ some. closes_more _ xs ys (h some)
shuts_more (stopped s) xs ys h = λ some. closes_more _ xs ys (h some)

-- DONE comes last
done_after : (outs closing : List Out) (number : ℕ) (came : List Arrived) → EndsEmpty (outs ++ closing) came → EndsEmpty (outs ++ (closing ++ done number ∷ [])) came
done_after outs closing number came e = record {
  holdings = e.holdings;
  traced = subst (λ xs. Traced xs e.holdings came) (append_assoc outs closing (done number ∷ [])) (apart (outs ++ closing) (done number ∷ []) e.holdings came e.traced (tt, tt));
  none_live = e.none_live;
  none_wait = e.none_wait;
}

-- what a client puts closes the run for which it stands
pub client_closes : (c : Snapshot) (m : Progress) (p : Holdings) (number : ℕ) (old new : Logged) → StandsForProgress c m → FitsOutput c p → (f : FinishesBy number c old new) → ClosesAll m p number (f.closing ++ (done number ∷ []))
client_closes c m p number old new st fit f = record {
  put = without_graph f.closing;
  shuts = f.shuts m st;
  plain = plain_append f.closing (done number ∷ []);
  front = f.closing;
  last = refl;
  shown_first = shuts_more m.standing f.closing (done number ∷ []) (f.first m st);
  traces = λ outs came t. done_after outs f.closing number came (f.traces outs p came t fit);
}

-- before any record
pub fresh_closes : (number : ℕ) → ClosesAll nowhere no_holdings number (done number ∷ [])
fresh_closes number = record {
  put = [];
  shuts = refl;
  plain = refl;
  front = [];
  last = refl;
  shown_first = tt;
  traces = λ outs came t. record { holdings = no_holdings; traced = apart outs (done number ∷ []) no_holdings came t (tt, tt); none_live = refl; none_wait = refl };
}
