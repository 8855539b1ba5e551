-- Answers of one ask more, over a journal that may have grown.
use Rattle.std.proofs.Common.{◌≡◌, ℕ, ◌≤◌, List, [], ◌∷◌, ◌++◌, length, take, sym, ap, subst, ◌∙◌, arith, length-append}
use Rattle.std.proofs.lemmas.List.{take-append-le, take_all}
use mathlib.Core.List.{IsPrefix}
use Rattle.uni_schema.specs.Schema.{Declarations}
use Rattle.uni_table.specs.declared.command.Command.{Command}
use Rattle.uni_table.specs.Journals.{fold_of, first}
use Rattle.uni_table.specs.Laws.{TablesAreKept}
use Rattle.uni_table.specs.TableState.{IsKept}
use Rattle.query_check.specs.Plan.{stated_of}
use Rattle.uni_meaning.specs.Replies.{reply_of}
use Rattle.uni_meaning.specs.declared.reply.Reply.{Reply as ReplyState}
use Rattle.shard_index.specs.Versions.{VersionState}
use Rattle.viewer_policy.specs.Judged.{StandsFor}
use Rattle.apply_extract.specs.Hits.{OfEachTable}
use Rattle.reply_text.specs.declared.answer.Answer.{Answer}
use Rattle.reply_text.specs.declared.answer.Answer.TheVariants.{Reply, Memory}
use Rattle.version_catalog.specs.Seats.{IsVersionOf}
use Rattle.version_catalog.specs.Settings.{SettingsState}
use Rattle.session_asks.specs.Replies.{AreReplied, reply_at}
use Rattle.session_asks.specs.declared.asks.AskLine.{AskLine}

pub length_prefix : {A : Type 0} (xs ys : List A) → IsPrefix xs ys → length xs ≤ length ys
length_prefix xs ys p = omega (arith, length-append xs p.0, ap length p.1)

-- a longer journal has the same first batches
first_prefix : (journal later : List (List Command)) (n : ℕ) → IsPrefix journal later → n ≤ length journal → first journal n ≡ first later n
first_prefix journal later n p le = sym (take-append-le n journal p.0 le) ∙ ap (λ js. take n js) p.1

reply_later : (schema : Declarations) (journal later : List (List Command)) (ask : AskLine) (n : ℕ) → IsPrefix journal later → n ≤ length journal → reply_at schema journal ask n ≡ reply_at schema later ask n
reply_later schema journal later ask n p le =
    ap (λ js. Reply ask.line (reply_of schema (fold_of schema js) n (stated_of ask.query).plan ask.viewer ask.limit)) (first_prefix journal later n p le)

-- from a smaller number on
pub replied_lower : (schema : Declarations) (journal : List (List Command)) (low high : ℕ) (asks : List AskLine) (answers : List Answer) → low ≤ high → AreReplied schema journal high asks answers → AreReplied schema journal low asks answers
replied_lower schema journal low high [] [] le are = tt
replied_lower schema journal low high (ask ∷ asks) (Reply line reply ∷ answers) le are = (omega (arith, are.0), are.1, are.2, are.3)
replied_lower schema journal low high (ask ∷ asks) (Memory line ∷ answers) le are = (are.0, replied_lower schema journal low high asks answers le are.1)
replied_lower schema journal low high asks answers le are = absurd are

-- further asks, none of whose numbers is below the journal's length so far
pub replied_more : (schema : Declarations) (journal later : List (List Command)) (low : ℕ) (asks more : List AskLine) (answers others : List Answer) → IsPrefix journal later → low ≤ length journal
    → AreReplied schema journal low asks answers → AreReplied schema later (length journal) more others → AreReplied schema later low (asks ++ more) (answers ++ others)
replied_more schema journal later low [] more [] others p le are next = replied_lower schema later low (length journal) more others le next
replied_more schema journal later low (ask ∷ asks) more (Reply line reply ∷ answers) others p le are next =
    let longer = length_prefix journal later p in (
      are.0,
      omega (arith, are.1),
      are.2 ∙ reply_later schema journal later ask reply.publishes p are.1,
      replied_more schema journal later reply.publishes asks more answers others p are.1 are.3 next,
    )
replied_more schema journal later low (ask ∷ asks) more (Memory line ∷ answers) others p le are next = (are.0, replied_more schema journal later low asks more answers others p le are.1 next)
replied_more schema journal later low asks more answers others p le are next = absurd are

-- the version of a journal stands for the journal's table
standing : (settings : SettingsState) (journal : List (List Command)) (version : VersionState) → TablesAreKept → IsVersionOf settings journal version → StandsFor version settings.limits (fold_of settings.schema journal)
standing settings journal version laws is = record {
  kept = subst (λ (s : Declarations). IsKept s settings.limits (fold_of settings.schema journal)) (sym is.schema) (laws.journals settings.schema settings.limits journal is.accepted);
  stands = is.table;
}

-- what is answered over it is the reply at the journal's length
pub replied_newest : (settings : SettingsState) (old journal : List (List Command)) (version : VersionState) (ask : AskLine) (reply : ReplyState) → TablesAreKept → IsPrefix old journal → IsVersionOf settings journal version
    → OfEachTable version (λ table. reply ≡ reply_of version.schema table version.publishes (stated_of ask.query).plan ask.viewer ask.limit)
    → AreReplied settings.schema journal (length old) (ask ∷ []) (Reply ask.line reply ∷ [])
replied_newest settings old journal version ask reply laws p is told =
    let table = fold_of settings.schema journal in
    let reply_is = told settings.limits table (standing settings journal version laws is) in
    let number : reply.publishes ≡ length journal = ap (λ (r : ReplyState). r.publishes) reply_is ∙ is.publishes in
    let longer = length_prefix old journal p in
    let all : first journal reply.publishes ≡ journal = take_all reply.publishes journal (omega (arith, number)) in
    let same : reply ≡ reply_of settings.schema (fold_of settings.schema (first journal reply.publishes)) reply.publishes (stated_of ask.query).plan ask.viewer ask.limit =
    reply_is ∙ (λ i. reply_of (is.schema i) (fold_of settings.schema (sym all i)) ((is.publishes ∙ sym number) i) (stated_of ask.query).plan ask.viewer ask.limit) in
    (omega (arith, number), omega (arith, number), ap (λ r. Reply ask.line r) same, tt)
