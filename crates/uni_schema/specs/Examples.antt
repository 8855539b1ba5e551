-- Worked headers.
use Rattle.std.specs.Prelude.{◌≡◌, ℕ, true, List, [], ◌∷◌, codes}
use Rattle.uni_schema.specs.Header.{Opening, opens, refused, opening_of}
use Rattle.uni_schema.specs.declared.refusal.SchemaRefusal.TheVariants.{BadLine, NamedTwice, UnknownVertical, OutOfRange, WordSource, BadDeny, NoBegin}
use Rattle.uni_schema.specs.declared.schema.Origin.TheVariants.{Vertical}
use Rattle.uni_schema.specs.declared.schema.Owner.TheVariants.{Source}
use Rattle.uni_schema.specs.declared.schema.Store.TheVariants.{Index}

abbrev pub first : List ℕ
first = codes "unicorn 1"

abbrev pub user : List ℕ
user = codes "vertical user 1 1"

abbrev pub opened : List (List ℕ) → Opening
opened lines = opening_of 65536 lines

pub record WorkedHeaders : Type 0 where
  pub no_lines : opened [] ≡ refused (NoBegin 1)
  pub other_format : opened (codes "unicorn 3" ∷ []) ≡ refused (BadLine 1)
  pub format_twice : opened (first ∷ first ∷ []) ≡ refused (BadLine 2)
  pub two_spaces : opened (codes "unicorn  1" ∷ []) ≡ refused (BadLine 1)
  pub no_shard : opened (first ∷ codes "vertical user 0 1" ∷ []) ≡ refused (OutOfRange 2)
  pub word : opened (first ∷ codes "vertical word 1 1" ∷ []) ≡ refused (NamedTwice 2)
  pub least_code : opened (first ∷ codes "vertical word 0 1" ∷ []) ≡ refused (NamedTwice 2)
  pub owned_by_words : opened (first ∷ user ∷ codes "type lives word user both index" ∷ []) ≡ refused (WordSource 3)
  pub no_vertical : opened (first ∷ user ∷ codes "type lives word town target index" ∷ []) ≡ refused (UnknownVertical 3)
  pub no_type : opened (first ∷ user ∷ codes "deny blocked" ∷ []) ≡ refused (BadDeny 3)
  pub too_short : opened (first ∷ user ∷ []) ≡ refused (NoBegin 3)
  pub without_verticals : opened (codes "# empty" ∷ codes "unicorn 2" ∷ codes "begin" ∷ first ∷ [])
      ≡ opens (record { format = 2; verticals = []; types = [] }) 4 (first ∷ [])
  pub whole : opened (first ∷ user ∷ codes "type blocked user user source index" ∷ [] ∷ codes "deny blocked" ∷ codes "begin" ∷ [])
      ≡ opens (record {
        format = 1;
        verticals = record { name = codes "user"; shards = 1; replicas = 1 } ∷ [];
        types = record { name = codes "blocked"; origin = Vertical 0; target = 0; owner = Source; store = Index; deny = true } ∷ [];
      }) 7 []
