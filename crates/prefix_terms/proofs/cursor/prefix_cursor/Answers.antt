use Rattle.std.proofs.Common.{◌≡◌, List, ◌∙◌, ap, sym, subst, map}
use Rattle.layer_base.specs.Layers.{stack_table}
use Rattle.uni_base.specs.declared.entity.DocKey.{DocKey}
use Rattle.posting_lists.specs.Postings.{keys_of}
use Rattle.prefix_terms.specs.PrefixCursors.{AreHeld, word_postings}
use Rattle.prefix_terms.specs.PrefixWords.{prefix_words}
use Rattle.prefix_terms.proofs.KeysOfWords.{all_held, map-keys_of}
use Rattle.prefix_terms.proofs.cursor.prefix_cursor.Goals as goal

lists_are : (c : goal.After-new-postings) → map keys_of c.new-postings.result ≡ map (λ word. keys_of (word_postings c.args.type_no (stack_table c.args.stack.now.0) word)) c.in_ok-words.words
lists_are c =
    let number = c.args.type_no in let table = stack_table c.args.stack.now.0 in
    ap (map keys_of) (c.new-postings.ensures ∙ c.in_ok-cursors.ensures {u = tt} ∙ ap (map (word_postings number table)) c.as_slice.ensures)
    ∙ map-keys_of number table c.in_ok-words.words

pub invariant_of-result : goal.invariant_of-result
invariant_of-result c =
    let number = c.args.type_no in let table = stack_table c.args.stack.now.0 in
    subst (λ (lists : List (List DocKey)). AreHeld (record { table = table; number = number; words = c.in_ok-words.words; lists = lists })) (sym (lists_are c)) (all_held number table c.in_ok-words.words)

pub returns : goal.returns
returns c =
    let number = c.args.type_no in let table = stack_table c.args.stack.now.0 in
    let words : c.in_ok-words.words ≡ prefix_words number c.args.from.now table = c.in_ok-words.ensures {u = tt} in
    let lists = lists_are c ∙ ap (map (λ word. keys_of (word_postings number table word))) words in
    λ i. record { table = table; number = number; words = words i; lists = lists i }
