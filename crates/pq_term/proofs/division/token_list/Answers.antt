use Rattle.std.proofs.Common.{◌∙◌, sym, ap, subst, is_ok}
use Rattle.std.proofs.ResultArms.{chosen}
use Rattle.pq_term.proofs.Ends.{IsDividedBefore, ends_here, divided_push}
use Rattle.pq_term.proofs.division.token_list.Goals as goal

-- the end of the text ends the division
pub returns-in-End : goal.returns-in-End
returns-in-End c =
    let loop = c.loop-token.invariant in
    record { ok = ends_here _ _ _ _ loop.divided (sym c.token_at.ensures.value ∙ c.in-End.is); err = tt; within = loop.lie; form = loop.formed }

-- what is not a token ends the division
pub returns-in-NoToken : goal.returns-in-NoToken
returns-in-NoToken c =
    let loop = c.loop-token.invariant in
    record {
      ok = tt;
      err =
          (c.loop-token.tokens.items, ends_here _ _ _ _ loop.divided (sym c.token_at.ensures.value ∙ c.in-NoToken.is));
      within = tt;
      form =
          tt;
    }

-- the token that was pushed is one more
pub loop-token-preserved : goal.loop-token-preserved
loop-token-preserved c =
    let found = c.in-Token.ensures in
    let pushed = chosen _ _ _ _ c.push.ensures.items (sym c.map_err.ensures.variant ∙ ap is_ok c.in_ok-map_err-in-Token.was) in
    subst (IsDividedBefore c.args.bytes.now _) (sym pushed) (divided_push _ _ _ _ c.loop-token.invariant found.value found.within found.form)
