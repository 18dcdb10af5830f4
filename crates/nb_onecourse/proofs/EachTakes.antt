-- What comes to opens in order has one answer of them all, and those that live on have still ended nothing.
use Rattle.std.proofs.Common.{◌≡◌, ℕ, List, ◌∷◌, ◌++◌, Some, None, refl, sym, ◌∙◌, ap, subst}
use Rattle.std.specs.Prelude.{slice_get}
use Rattle.std.specs.List.{AllByRecursion}
use Rattle.nb_defs.specs.Records.{Out}
use Rattle.nb_stack.specs.Client.{Client}
use Rattle.nb_machine.specs.Lives.{OpenInput, exchange, Live, continued}
use Rattle.nb_machine.specs.Kinds.{Keeps}
use Rattle.nb_machine.specs.Takings.{end_among, Over, AllTake, all_have, lives_on, is_over}
use Rattle.nb_onecourse.specs.Answers.{PutsNoEnd, IsUnended}
use Rattle.nb_onecourse.proofs.Ends.{all_snoc}
use Rattle.nb_onecourse.proofs.EachKind.{has_one_answer}

-- the same records, the same opens that live on, and the same that ended
pub record SameTaken (put put' : List Out) (after after' : List Live) (over over' : List Over) : Type 0 where
  pub records : put ≡ put'
  pub live : after ≡ after'
  pub ended : over ≡ over'

pub one_link : (devices : List Client) (k : ℕ) (a b : Client) → slice_get devices k ≡ Some a → slice_get devices k ≡ Some b → a ≡ b
one_link devices k a b p q = let both : Some a ≡ Some b = sym p ∙ q in cc

-- the first of them puts one list
one_put : (l : Live) (input : OpenInput) (link link' : Client) (put put' : List Out) → IsUnended l → link' ≡ link → Keeps (continued l (exchange input link put)) → Keeps (continued l (exchange input link' put')) → put ≡ put'
one_put l input link link' put put' n e keeps keeps' = has_one_answer l input link n put put' keeps (subst (λ z. Keeps (continued l (exchange input z put'))) e keeps')

pub all_take_one : (devices : List Client) (input : OpenInput) (ls : List Live) (put put' : List Out) (after after' : List Live) (over over' : List Over) → AllByRecursion IsUnended ls →
    AllTake devices input ls put after over → AllTake devices input ls put' after' over' → SameTaken put put' after after' over over'
all_take_one devices input ls put put' after after' over over' n all_have all_have = record { records = refl; live = refl; ended = refl }
all_take_one devices input ls put put' after after' over over' n (lives_on l ls0 rs link p more o got keeps none rest) (lives_on l2 ls2 rs2 link2 p2 more2 o2 got2 keeps2 none2 rest2) =
    let links : link2 ≡ link = one_link devices l.device link2 link got2 got in
    let puts : p ≡ p2 = one_put l input link link2 p p2 n.0 links keeps keeps2 in
    let t = all_take_one devices input ls0 more more2 rs rs2 o o2 n.1 rest rest2 in
    record {
      records = ap (λ z. z ++ more) puts ∙ ap (λ z. p2 ++ z) t.records;
      live = ap (λ z. continued l (exchange input z p) ∷ rs) (sym links) ∙ ap (λ z. continued l (exchange input link2 z) ∷ rs) puts ∙ ap (λ z. continued l (exchange input link2 p2) ∷ z) t.live;
      ended = t.ended;
    }
all_take_one devices input ls put put' after after' over over' n (lives_on l ls0 rs link p more o got keeps none rest) (is_over l2 ls2 rs2 link2 p2 more2 o2 cause2 got2 keeps2 some2 rest2) =
    let puts : p ≡ p2 = one_put l input link link2 p p2 n.0 (one_link devices l.device link2 link got2 got) keeps keeps2 in
    let no : None ≡ Some cause2 = sym none ∙ ap (end_among l.number) puts ∙ some2 in
    absurd (cc)
all_take_one devices input ls put put' after after' over over' n (is_over l ls0 rs link p more o cause got keeps some rest) (lives_on l2 ls2 rs2 link2 p2 more2 o2 got2 keeps2 none2 rest2) =
    let puts : p ≡ p2 = one_put l input link link2 p p2 n.0 (one_link devices l.device link2 link got2 got) keeps keeps2 in
    let no : None ≡ Some cause = sym none2 ∙ ap (end_among l.number) (sym puts) ∙ some in
    absurd (cc)
all_take_one devices input ls put put' after after' over over' n (is_over l ls0 rs link p more o cause got keeps some rest) (is_over l2 ls2 rs2 link2 p2 more2 o2 cause2 got2 keeps2 some2 rest2) =
    let links : link2 ≡ link = one_link devices l.device link2 link got2 got in
    let puts : p ≡ p2 = one_put l input link link2 p p2 n.0 links keeps keeps2 in
    let both : Some cause ≡ Some cause2 = sym some ∙ ap (end_among l.number) puts ∙ some2 in
    let causes : cause ≡ cause2 = cc in
    let t = all_take_one devices input ls0 more more2 rs rs2 o o2 n.1 rest rest2 in
    record {
      records = ap (λ z. z ++ more) puts ∙ ap (λ z. p2 ++ z) t.records;
      live = t.live;
      ended = ap (λ z. record { live = continued l (exchange input z p); cause = cause } ∷ o) (sym links) ∙ ap (λ z. record { live = continued l (exchange input link2 z); cause = cause } ∷ o) puts
          ∙ ap (λ z. record { live = continued l (exchange input link2 p2); cause = z } ∷ o) causes ∙ ap (λ z. record { live = continued l (exchange input link2 p2); cause = cause2 } ∷ z) t.ended;
    }

pub all_take_unended : (devices : List Client) (input : OpenInput) (ls : List Live) (put : List Out) (after : List Live) (over : List Over) → AllByRecursion IsUnended ls → AllTake devices input ls put after over → AllByRecursion IsUnended after
all_take_unended devices input ls put after over n all_have = tt
all_take_unended devices input ls put after over n (lives_on l ls0 rs link p more o got keeps none rest) =
    (all_snoc (PutsNoEnd l.number) l.exchanges (exchange input link p) n.0 none, all_take_unended devices input ls0 more rs o n.1 rest)
all_take_unended devices input ls put after over n (is_over l ls0 rs link p more o cause got keeps some rest) = all_take_unended devices input ls0 more rs o n.1 rest
