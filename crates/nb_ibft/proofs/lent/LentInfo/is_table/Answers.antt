use Rattle.std.proofs.Common.{◌≡◌, ℕ, List, ◌++◌, length, take, drop, sym, ap, ◌∙◌, arith, IsTrue}
use Rattle.std.proofs.lemmas.List.{take-append-drop}
use Rattle.std.proofs.lemmas.Bool.Decides.{Decides-eqb}
use Rattle.std.proofs.lemmas.Slice.Eq.{slice_eq-Decides}
use Rattle.nb_wire.proofs.BytesLaws.{append_one}
use Rattle.nb_ibft.specs.Tables.{texts_text, texts_place}
use Rattle.nb_ibft.specs.Views.{lent_info}
use Rattle.nb_ibft.proofs.InfoLemmas.{texts_cut, table_long, as_long}
use Rattle.nb_ibft.proofs.lent.LentInfo.is_table.Goals as goal

pub returns-then-bytes-place : goal.returns-then-bytes-place
returns-then-bytes-place c = (λ h. cc, λ h. absurd (omega (arith, table_long (lent_info c.args.self.now) c.args.bytes.now c.requires h, c.texts_place.ensures.value, c.from-place.ensures, c.if-bytes-place.true)))

-- a cut at a place
cut_there : (bytes before texts : List ℕ) (n : ℕ) → before ≡ take n bytes → texts ≡ drop n bytes → bytes ≡ before ++ texts
cut_there bytes before texts n b t = sym (take-append-drop n bytes) ∙ ap (λ x. x ++ drop n bytes) (sym b) ∙ ap (λ y. before ++ y) (sym t)

pub returns-then-not-are_texts : goal.returns-then-not-are_texts
returns-then-not-are_texts c = (
  λ h. cc,
  λ h. let texts = texts_cut (lent_info c.args.self.now) c.args.bytes.now c.split_at.result.0.now c.split_at.result.1.now c.requires
      (cut_there c.args.bytes.now c.split_at.result.0.now c.split_at.result.1.now c.from-place.result c.split_at.ensures.front c.split_at.ensures.back)
      (c.split_at.ensures.front_len ∙ c.from-place.ensures ∙ c.texts_place.ensures.value) h in
      let there : IsTrue c.are_texts.result = c.are_texts.ensures.1 texts in
      sym c.if-not-are_texts.true ∙ there,
)

pub returns : goal.returns
returns c =
    let i = lent_info c.args.self.now in
    let bytes = c.args.bytes.now in
    let before = c.split_at.result.0.now in
    let texts = c.split_at.result.1.now in
    let parts = c.put_checked.new.to.items in
    let same : texts ≡ texts_text i = c.are_texts.ensures.0 c.if-not-are_texts.false in
    let cut : bytes ≡ before ++ texts = cut_there bytes before texts c.from-place.result c.split_at.ensures.front c.split_at.ensures.back in
    let len : length before ≡ texts_place i = c.split_at.ensures.front_len ∙ c.from-place.ensures ∙ c.texts_place.ensures.value in
    let long : length parts ≡ texts_place i = as_long i parts texts c.requires same c.put_checked.ensures in
    let eq = slice_eq-Decides Decides-eqb before c.as_slice.result.now c.eq.result c.eq.ensures in (
      λ h. cut ∙ ap (λ x. x ++ texts) (eq.0 h ∙ c.as_slice.ensures.value) ∙ c.put_checked.ensures,
      λ h. eq.1 ((append_one before texts parts texts (len ∙ sym long) (sym cut ∙ h ∙ sym c.put_checked.ensures)).0 ∙ sym c.as_slice.ensures.value),
    )
