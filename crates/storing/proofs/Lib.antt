mod Little
