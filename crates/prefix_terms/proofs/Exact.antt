-- A prefix term has exactly the words that begin so, and exactly their postings.
use Rattle.std.proofs.Common.{◌≡◌, true, ◌∙◌}
use Rattle.std.proofs.lemmas.List.Elements.{All-contains}
use Rattle.uni_meaning.specs.Prefixes.{begins_with}
use Rattle.prefix_terms.specs.Laws.{PrefixTermsAreExact}
use Rattle.prefix_terms.specs.PrefixWords.{prefix_words, has_posting}
use Rattle.prefix_terms.proofs.KeysOfWords.{has_key-all_postings}
use Rattle.prefix_terms.proofs.TableWords.{any-prefix_words, contains_from_any, prefix_words-begin, prefix_words-posted, prefix_words-sorted}

pub prefix_terms_are_exact : PrefixTermsAreExact
prefix_terms_are_exact = record {
  words = λ number from table word.
      let found = prefix_words number from table in (
        λ there. (
          All-contains (λ w. begins_with from w ≡ true) found word (prefix_words-begin number from table) there,
          All-contains (λ w. has_posting number table w ≡ true) found word (prefix_words-posted number from table) there,
        ),
        λ parts. contains_from_any word found (any-prefix_words number from table word parts.0 ∙ parts.1),
      );
  rising = prefix_words-sorted;
  keys = λ number from table k. has_key-all_postings number table from k;
}
