use Rattle.std.proofs.Common.{◌≡◌, ℕ, ◌+◌, ◌%◌, List, ◌++◌, sym, ap, ◌∙◌, append_assoc}
use Rattle.std.specs.Prelude.{sum}
use Rattle.std.proofs.Math.Nat.{add-mod}
use Rattle.std.proofs.lemmas.List.Sums.{sum_by-append}
use Rattle.nb_ibft.specs.Infos.{Info}
use Rattle.nb_ibft.specs.Tables.{ibft, table_text, table_header_text, parts_text, texts_text, total_length, check_of, check_byte}
use Rattle.nb_ibft.specs.Views.{lent_info}
use Rattle.nb_ibft.proofs.lent.LentInfo.put_checked.Goals as goal

-- the sum of a table without its checksum, of its two halves
total_sum : (i : Info) (first : List ℕ) → first ≡ table_header_text (total_length i) 0 ++ parts_text i → (sum first % 256 + sum (texts_text i) % 256) % 256 ≡ sum (table_text i 0) % 256
unfolding table_text
total_sum i first e =
    sym (add-mod (sum first) (sum (texts_text i)) 256)
    ∙ ap (λ n. n % 256) (sym (sum_by-append (λ x. x) first (texts_text i)))
    ∙ ap (λ l. sum (l ++ texts_text i) % 256) e
    ∙ ap (λ l. sum l % 256) (append_assoc (table_header_text (total_length i) 0) (parts_text i) (texts_text i))

-- a table of its halves, with the checksum of this sum
is_checked : (i : Info) (check : ℕ) (second texts : List ℕ) → second ≡ table_header_text (total_length i) check ++ parts_text i → texts ≡ texts_text i → check ≡ check_byte (table_text i 0) → second ++ texts ≡ ibft i
unfolding ibft table_text
is_checked i check second texts e t c =
    ap (λ l. l ++ texts) e
    ∙ ap (λ l. (table_header_text (total_length i) check ++ parts_text i) ++ l) t
    ∙ append_assoc (table_header_text (total_length i) check) (parts_text i) (texts_text i)
    ∙ ap (λ n. table_header_text (total_length i) n ++ (parts_text i ++ texts_text i)) c

pub returns : goal.returns
returns c =
    let i = lent_info c.args.self.now in
    is_checked i c.check_of-check.result c.put_parts-2.new.to.items c.args.texts.now c.put_parts-2.ensures.value c.requires.given
    (c.check_of-check.ensures
    ∙ ap (λ n. check_of ((n + c.sum_of-2.result) % 256)) (c.sum_of.ensures ∙ ap (λ l. sum l % 256) c.as_slice.ensures.value)
    ∙ ap (λ n. check_of ((sum c.put_parts.new.to.items % 256 + n) % 256)) (c.sum_of-2.ensures ∙ ap (λ l. sum l % 256) c.requires.given)
    ∙ ap check_of (total_sum i c.put_parts.new.to.items c.put_parts.ensures.value))
