use Rattle.std.proofs.Common.{ap, ◌∙◌}
use Rattle.iceoryx2_journal.proofs.Lives.{resumes_lives}
use Rattle.iceoryx2_journal.proofs.Resuming.{resumed, resumes_keeps}
use Rattle.iceoryx2_journal.proofs.journal.Journal.resume.Goals as goal

pub returns-clause-takes : goal.returns-clause-takes
returns-clause-takes g c =
    resumed g.L.Log.contents c.args.log c.catch_up_plainly-is_all.result _ c.args.self.now _ c.catch_up_plainly-is_all.new.self _ _ c.self.view_is c.self-2.view_is
    (ap (λ v. v.items) c.replace-own.ensures.after ∙ c.new-none.ensures.items) (ap (λ v. v.items) c.replace-own.ensures.value) c.catch_up_plainly-is_all.ensures.takes

pub returns-clause-kept : goal.returns-clause-kept
returns-clause-kept g c =
    resumes_keeps g.L.Log.contents c.args.log c.catch_up_plainly-is_all.result c.args.self.now _
    (resumed g.L.Log.contents c.args.log c.catch_up_plainly-is_all.result _ c.args.self.now _ c.catch_up_plainly-is_all.new.self _ _ c.self.view_is c.self-2.view_is
    (ap (λ v. v.items) c.replace-own.ensures.after ∙ c.new-none.ensures.items) (ap (λ v. v.items) c.replace-own.ensures.value) c.catch_up_plainly-is_all.ensures.takes)

pub returns-clause-lives : goal.returns-clause-lives
returns-clause-lives g c = λ same.
    resumes_lives g.L.Log.contents c.args.log c.args.self.now _ c.catch_up_plainly-is_all.result same
    (resumed g.L.Log.contents c.args.log c.catch_up_plainly-is_all.result _ c.args.self.now _ c.catch_up_plainly-is_all.new.self _ _ c.self.view_is c.self-2.view_is
    (ap (λ v. v.items) c.replace-own.ensures.after ∙ c.new-none.ensures.items) (ap (λ v. v.items) c.replace-own.ensures.value) c.catch_up_plainly-is_all.ensures.takes)
